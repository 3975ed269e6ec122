-- What a report keeps while its input comes: the newest take's figures, those of the takes before it added up, and their lines at the front of the output.
use Rattle.std.specs.Prelude.{◌≡◌, refl, true, false, take, drop}
use Rattle.std.proofs.Math.Path.{sym, subst}
use Rattle.std.proofs.Common.{ap, ◌∙◌, arith, le-leb, take_at, length-take-le}
use mathlib.Core.List.{List, [], ◌∷◌, ◌++◌, append_assoc}
use Prim.Native.Nat.{ℕ, suc, ◌+◌, ◌*◌, ◌≤◌, ◌<◌}
use Rattle.std.proofs.lemmas.Bool.{lt-leb}
use Rattle.std.proofs.Math.ListN.{length, length-append}
use Rattle.whole.specs.Tests.{cond_yes, cond_no}
use Rattle.rules.specs.Rules.{Given, take_limit}
use Rattle.tuner.specs.declared.Tuner.{Tuner}
use Rattle.tuner.specs.declared.Answer.{Answer}
use Rattle.tuner.specs.Tuners.{default_tuner}
use Rattle.text.specs.Text.{decimal, Put}
use Rattle.text.specs.Places.{put_then, put-length}
use Rattle.text.specs.Spelling.{decimal-short}
use Rattle.lines.specs.declared.Reply.{Reply}
use Rattle.lines.specs.Laws.{no-places}
use Rattle.lines.specs.Lines.{read, desk, begins, Said, Answered, answered, no_room}
use Rattle.reports.specs.declared.Figures.{Figures}
use Rattle.reports.specs.Reports.{figures_of, added, no_figures, figures_line, takes_lines, total_of, too_many, report_of}
use Rattle.reports.specs.Counting.{Within, most}
use Rattle.reports.proofs.Counting.{within_none, within_more, within-added, figures-none, figures-append}
use Rattle.reports.proofs.Writing.{line-short}
use Rattle.reporting.specs.declared.Reporting.{Reporting}
use Rattle.reporting.specs.Reporting.{Takes, brought_by, with_given, takes_after, Reported}
use Rattle.reporting.specs.Counts.{On, counted_of, said-counts}

abbrev pub reporting : Tuner → ℕ → Figures → Figures → ℕ → Reporting
reporting t n now before length = record { tuner = t; takes = n; now = now; before = before; length = length }

-- with another tuner
abbrev pub with_tuner : Tuner → Reporting → Reporting
with_tuner t r = reporting t r.takes r.now r.before r.length

-- at most 1,000 takes: the newest, and those before it
pub record Few (r : Reporting) (out : List ℕ) (newest : List Given) (older : Takes) : Type 0 where
  pub takes : r.takes ≡ suc (length older)
  pub now : r.now ≡ figures_of newest
  pub before : r.before ≡ total_of older
  pub text : take r.length out ≡ takes_lines older
  pub count : r.tuner.numbers.count ≡ length newest
  pub small : length newest ≤ take_limit
  pub now-within : Within (length newest) r.now
  pub before-within : Within (take_limit * length older) r.before
  pub short : r.length ≤ 147 * length older

-- and more
pub data Keeps (r : Reporting) (out : List ℕ) : Takes → Type 0 where
  few : {newest : List Given} {older : Takes} → r.takes ≤ 1000 → Few r out newest older → Keeps r out (newest ∷ older)
  many : {takes : Takes} → r.takes ≡ 1001 → 1000 < length takes → Keeps r out takes

-- there are some takes, and these are kept
pub record Kept (r : Reporting) (out : List ℕ) : Type 0 where
  pub takes : Takes
  pub keeps : Keeps r out takes

-- what is kept is small enough to be added up and written
pub record Room (r : Reporting) : Type 0 where
  pub now : Within most r.now
  pub before : Within most r.before
  pub length : r.length ≤ 146853

pub keeps-few : {r : Reporting} {out : List ℕ} {takes : Takes} → Keeps r out takes → r.takes ≤ 1001
keeps-few (few h k) = omega arith
keeps-few (many h k) = omega arith

pub keeps-room : {r : Reporting} {out : List ℕ} {takes : Takes} → Keeps r out takes → r.takes ≤ 1000 → Room r
keeps-room (few h k) h' =
    record {
      now = within_more (omega (arith, k.small)) k.now-within;
      before = within_more (omega (arith, k.takes)) k.before-within;
      length = omega (arith, k.short, k.takes);
    }
keeps-room (many e h) h' = absurd (omega arith)

-- ---- a take begins

-- the figures of a take without samples
pub none_is : (f : Figures) → (f.samples ≡ 0) × ((f.pitched ≡ 0) × ((f.repeated ≡ 0) × ((f.dropped ≡ 0) × (f.sum ≡ 0)))) → f ≡ no_figures
none_is f (a, (b, (c, (d, e)))) = λ i. record { samples = a i; pitched = b i; repeated = c i; dropped = d i; sum = e i }

-- a text after what stands at the front
put_front : {out text out' : List ℕ} {at n : ℕ} → at ≤ length out → Put out at text out' n → take n out' ≡ take at out ++ text
put_front {out} {text} {at = at} {n} h p =
    let long : length (take at out ++ text) ≡ n = omega (arith, length-append (take at out) text, length-take-le at out h, p.next) in
    ap (take n) p.text ∙ take_at (take at out ++ text) (drop (at + length text) out) n long

module _ {r : Reporting} {out : List ℕ} {u : Tuner} (long : 147147 ≤ length out) where
  pub keeps-begun : {takes : Takes} {out' : List ℕ} {n : ℕ} {b none : Figures} → u.numbers.count ≡ 0 → r.takes < 1000 → none ≡ no_figures → Put out r.length (figures_line r.now) out' n → b ≡ added r.before r.now → Keeps r out takes
      → Keeps (reporting u (r.takes + 1) none b n) out' ([] ∷ takes)
  unfolding takes_lines total_of
  keeps-begun c l z p e (few {newest = newest} {older = older} h k) =
      few {newest = []} {older = newest ∷ older} (omega arith)
      (record {
        takes = omega (arith, k.takes);
        now = z ∙ sym figures-none;
        before = e ∙ (λ i. added (k.before i) (k.now i));
        text = put_front (omega (arith, k.short, k.takes)) p ∙ (λ i. k.text i ++ figures_line (k.now i));
        count = c;
        small = omega arith;
        now-within = subst (Within 0) (sym z) within_none;
        before-within = subst (Within (take_limit * suc (length older))) (sym e) (within_more (omega (arith, k.small)) (within-added r.before r.now k.before-within k.now-within));
        short = omega (arith, p.next, k.short, line-short r.now);
      })
  keeps-begun c l z p e (many h k) = absurd (omega arith)

pub keeps_too_many : {r : Reporting} {out : List ℕ} {takes : Takes} {u : Tuner} {now before : Figures} {n : ℕ} → 1000 ≤ r.takes → Keeps r out takes → Keeps (reporting u 1001 now before n) out ([] ∷ takes)
keeps_too_many l (few {newest = newest} {older = older} h k) = many {takes = [] ∷ newest ∷ older} refl (omega (arith, k.takes))
keeps_too_many l (many {takes = takes} h k) = many {takes = [] ∷ takes} refl (omega arith)

-- ---- the newest take goes on
module _ {r : Reporting} {out : List ℕ} {u : Tuner} (gs : List Given) where
  pub keeps_on : {takes : Takes} {f n : Figures} → On r.tuner u gs f → n ≡ added r.now f → r.takes ≤ 1000 → Keeps r out takes → Keeps (reporting u r.takes n r.before r.length) out (with_given gs takes)
  unfolding with_given
  keeps_on {f} o s h (few {newest = newest} g k) =
      let many = length-append newest gs in
      let upto = o.limit (omega (arith, k.count, k.small)) in
      few g
      (record {
        takes = k.takes;
        now = s ∙ (λ i. added (k.now i) (o.figures i)) ∙ sym (figures-append newest gs);
        before = k.before;
        text = k.text;
        count = omega (arith, o.count, k.count, many);
        small = omega (arith, o.count, upto, k.count, many);
        now-within = subst (Within (length (newest ++ gs))) (sym s) (within_more (omega (arith, many)) (within-added r.now f k.now-within o.within));
        before-within = k.before-within;
        short = k.short;
      })
  keeps_on o s h (many g k) = absurd (omega arith)

  pub keeps_on_many : {takes : Takes} {now before : Figures} {n : ℕ} → 1000 < r.takes → Keeps r out takes → Keeps (reporting u r.takes now before n) out (with_given gs takes)
  unfolding with_given
  keeps_on_many l (few g k) = absurd (omega arith)
  keeps_on_many l (many {takes = takes} g k) = many {takes = with_given gs takes} g (go takes k)
    where
      go : (ts : Takes) → 1000 < length ts → 1000 < length (with_given gs ts)
      go [] h = h
      go (newest ∷ older) h = h

-- ---- a line

pub record LineReported (t : Tuner) (line : List ℕ) (takes : Takes) (q : Reporting) (out : List ℕ) : Type 0 where
  pub text : List ℕ
  pub answer : Answer
  pub said : Said (desk t []) (read line) (desk q.tuner []) text answer
  pub keeps : Keeps q out (takes_after t (read line) answer takes)

-- it was answered, and whether a take began
pub record LineSaid (t : Tuner) (line : List ℕ) (u : Tuner) (d : Reply) : Type 0 where
  pub text : List ℕ
  pub said : Said (desk t []) (read line) (desk u []) text d.answer
  pub begun : d.begins ≡ begins (read line) d.answer

-- an empty store stays empty
pub line-said : {t : Tuner} {line out out' store : List ℕ} {u : Tuner} {d : Reply} → length store ≡ 0 → 4096 ≤ length out → Answered (desk t []) line out (desk u store) d.answer d.length out' → d.begins ≡ begins (read line) d.answer → LineSaid t line u d
line-said {t} {line} {store = store} {u = u} {d = d} e room (answered {text = text} r s p) b =
    record { text = text; said = subst (λ (l : List ℕ). Said (desk t []) (read line) (desk u l) text d.answer) (no-places store e) s; begun = b }
line-said e room (no_room r z v n o) b = absurd (omega arith)

module _ {t : Tuner} (line : List ℕ) {u : Tuner} {d : Reply} (p : LineSaid t line u d) where
  line-is : {takes : Takes} {q : Reporting} {out : List ℕ} → q.tuner ≡ u → Keeps q out (takes_after t (read line) d.answer takes) → LineReported t line takes q out
  line-is same k = record { text = p.text; answer = d.answer; said = subst (λ (v : Tuner). Said (desk t []) (read line) (desk v []) p.text d.answer) (sym same) p.said; keeps = k }

  pub begun-count : d.begins ≡ true → u.numbers.count ≡ 0
  begun-count e = (said-counts p.said).from-none (sym p.begun ∙ e)

  pub line-begun : {takes : Takes} {q : Reporting} {out : List ℕ} → d.begins ≡ true → q.tuner ≡ u → Keeps q out ([] ∷ takes) → LineReported t line takes q out
  line-begun {takes} {q} {out} e same k = line-is same (subst (Keeps q out) (sym (cond_yes ([] ∷ takes) (with_given (brought_by t (read line) d.answer) takes) (sym p.begun ∙ e))) k)

  pub line_on : d.begins ≡ false → On t u (brought_by t (read line) d.answer) (counted_of d.answer)
  line_on e = (said-counts p.said).on (sym p.begun ∙ e)

  pub line_went_on : {takes : Takes} {q : Reporting} {out : List ℕ} → d.begins ≡ false → q.tuner ≡ u → Keeps q out (with_given (brought_by t (read line) d.answer) takes) → LineReported t line takes q out
  line_went_on {takes} {q} {out} e same k = line-is same (subst (Keeps q out) (sym (cond_no ([] ∷ takes) (with_given (brought_by t (read line) d.answer) takes) (sym p.begun ∙ e))) k)

-- ---- the end: the report is written

module _ {r : Reporting} {out : List ℕ} where
  pub written-few : {takes : Takes} {out₁ out₂ : List ℕ} {n₁ n₂ : ℕ} {total : Figures} → 147147 ≤ length out → r.takes ≤ 1000 → Keeps r out takes → Put out r.length (figures_line r.now) out₁ n₁ → total ≡ added r.before r.now → Put out₁ n₁ (figures_line total) out₂ n₂
      → take n₂ out₂ ≡ report_of takes
  unfolding report_of takes_lines total_of
  written-few {out₁} {n₁ = n₁} {total = total} long h (few {older = older} g k) p e q =
      let both = put_then p q (omega (arith, k.short, k.takes, line-short r.now)) in
      put_front (omega (arith, k.short, k.takes)) both
      ∙ sym (append_assoc (take r.length out) (figures_line r.now) (figures_line total))
      ∙ (λ i. k.text i ++ figures_line (k.now i) ++ figures_line ((e ∙ (λ j. added (k.before j) (k.now j))) i))
      ∙ sym (cond_yes _ too_many (le-leb (suc (length older)) 1000 (omega (arith, k.takes))))
  written-few long h (many g k) p e q = absurd (omega arith)

  pub written-many : {takes : Takes} {out' : List ℕ} {n : ℕ} → 1000 < r.takes → Keeps r out takes → Put out 0 too_many out' n → take n out' ≡ report_of takes
  unfolding report_of
  written-many h (few g k) p = absurd (omega arith)
  written-many h (many {takes = takes} g k) p = put_front (omega arith) p ∙ sym (cond_no _ too_many (lt-leb (length takes) 1000 k))

pub too_many_within : {out out' : List ℕ} {n : ℕ} → 6 ≤ length out → Put out 0 too_many out' n → n ≤ length out'
too_many_within h p =
    let short = decimal-short 28 in
    let all = length-append (decimal 28) (10 ∷ []) in
    omega (arith, p.next, put-length p (omega arith))

-- ---- the input so far

-- after these bytes: what is kept, and `held` of a line that has not ended; what the rest of the input makes of it, all of the input makes of the opening
pub record SoFar (input : List ℕ) (r : Reporting) (held out : List ℕ) : Type 0 where
  pub takes : Takes
  pub keeps : Keeps r out takes
  pub goes : (more : List ℕ) (final : Takes) → Reported r.tuner takes held more final → Reported default_tuner ([] ∷ []) [] (input ++ more) final

pub so_far_kept : {input : List ℕ} {r : Reporting} {held out : List ℕ} → SoFar input r held out → Kept r out
so_far_kept s = record { takes = s.takes; keeps = s.keeps }
