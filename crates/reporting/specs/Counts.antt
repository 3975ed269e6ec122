-- What the answer to a line counts is what the report counts of the samples that it brought, and how many samples the tuner then counts.
use Rattle.std.specs.Prelude.{◌≡◌, refl, true, false, cond, ℕ, ◌+◌, ◌≤◌, eqb, ℤ}
use Rattle.std.proofs.Math.Path.{sym, ap, subst}
use Rattle.std.proofs.Common.{◌∙◌, arith}
use mathlib.Core.List.{List, []}
use borrow.Author.Tests.{eq-eqb, eqb-true, eqb-false}
use Rattle.std.proofs.Math.ListN.{length}
use Rattle.whole.specs.Tests.{by, cond_case, cond_yes, cond_no, yes_and_no}
use Rattle.rules.specs.declared.Settings.{Settings}
use Rattle.rules.specs.Rules.{Given, gives, take_limit, longest_block}
use Rattle.rules.proofs.Blocks.{given-length}
use Rattle.record.specs.Records.{heard_after}
use Rattle.tuner.specs.declared.Voice.{Voice}
use Rattle.tuner.specs.declared.Tuner.{Tuner}
use Rattle.tuner.specs.declared.Answer.{Answer}
use Rattle.tuner.specs.Tuners.{take_of, force_of, fresh_numbers, silent_tuner, fresh_tuner, default_tuner, kept_list, after_block, Took, with_numbers, with_keys, with_settings, with_bytes, begun_again, Changed, Keyed}
use Rattle.tuner.proofs.Verdicts.{verdict-fits, verdict-zero}
use Rattle.staying.specs.Staying.{good-force, good_sane, took_number, took-keeps, took-taken, untaken_unchanged}
use Rattle.lines.specs.Lines.{Line, block, Desk, numbered, with_four, with_mode, with_channel, begins, Said, begun, not_begun, changed, taken, begun-again, mode-changed, channel-changed, keyed, not_read}
use Rattle.reports.specs.declared.Figures.{Figures}
use Rattle.reports.specs.Reports.{figures_of, no_figures}
use Rattle.reports.specs.Counting.{Within}
use Rattle.reports.proofs.Counting.{within_none, figures-none, gives-within}
use Rattle.reporting.specs.Reporting.{brought_by}

-- what the answer to a line counts: nothing where it is refused or given again
abbrev pub counted_of : Answer → Figures
counted_of a = cond (eqb a.number 0) (record { samples = a.written; pitched = a.pitched; repeated = a.repeated; dropped = a.dropped; sum = a.strayed }) no_figures

-- from t to t' the take went on with samples for which the rules gave gs, and these are their figures
pub record On (t t' : Tuner) (gs : List Given) (f : Figures) : Type 0 where
  pub figures : f ≡ figures_of gs
  pub count : t'.numbers.count ≡ t.numbers.count + length gs
  pub limit : t.numbers.count ≤ take_limit → t'.numbers.count ≤ take_limit
  pub few : length gs ≤ longest_block
  pub within : Within (length gs) f

-- a line that begins a take leaves a tuner without samples, and any other goes on
pub record Counts (t t' : Tuner) (line : Line) (a : Answer) : Type 0 where
  pub from-none : begins line a ≡ true → t'.numbers.count ≡ 0
  pub on : begins line a ≡ false → On t t' (brought_by t line a) (counted_of a)

-- ---- a line that brings no samples

on_none : {t t' : Tuner} {gs : List Given} {f : Figures} → gs ≡ [] → f ≡ no_figures → t'.numbers.count ≡ t.numbers.count → On t t' gs f
on_none {t} {t'} {gs} {f} e z c =
    let many : length gs ≡ 0 = ap length e in
    record {
      figures = z ∙ sym figures-none ∙ ap figures_of (sym e);
      count = omega (arith, c, many);
      limit = λ h. omega (arith, c);
      few = omega (arith, many);
      within = subst (λ (n : ℕ). Within n f) (sym many) (subst (Within 0) (sym z) within_none);
    }

-- a number alone counts nothing
number-none : (v : ℕ) → counted_of (numbered v) ≡ no_figures
number-none v = cond_case (eqb v 0) no_figures no_figures (λ (f : Figures). f ≡ no_figures) (λ e. refl) (λ e. refl)

-- a call that is refused, or changes other things
done-count : (v : ℕ) (u t : Tuner) {t' : Tuner} → t' ≡ cond (eqb v 0) u t → u.numbers.count ≡ t.numbers.count → t'.numbers.count ≡ t.numbers.count
done-count v u t e h = ap (λ (w : Tuner). w.numbers.count) e ∙ cond_case (eqb v 0) u t (λ (w : Tuner). w.numbers.count ≡ t.numbers.count) (λ z. h) (λ z. refl)

changed-count : {t t' : Tuner} (s : Settings) {v : ℕ} → Changed t s t' v → t'.numbers.count ≡ t.numbers.count
unfolding with_keys
changed-count {t} s {v} p = done-count v (with_numbers t (with_settings t.numbers s)) t p.tuner refl

keyed-count : {t t' : Tuner} (bytes : List ℕ) {v : ℕ} → Keyed t bytes t' v → t'.numbers.count ≡ t.numbers.count
unfolding with_keys
keyed-count {t} bytes {v} p = done-count v (with_numbers t (with_bytes t.numbers bytes)) t p.tuner refl

-- a line that is taken or not, and brings no samples
number_counts : {t t' : Tuner} {line : Line} {v : ℕ} → begins line (numbered v) ≡ false → brought_by t line (numbered v) ≡ [] → t'.numbers.count ≡ t.numbers.count → Counts t t' line (numbered v)
number_counts {v = v} n e c = record { from-none = λ z. absurd (yes_and_no z n); on = λ z. on_none e (number-none v) c }

-- the answer is not 0
not_zero : {A : Type 0} (v : ℕ) → (v ≡ 0 → ⊥) → eqb v 0 ≡ true → A
not_zero v n z = absurd (n (eqb-true v 0 z))

-- ---- a block
module _ {t t' : Tuner} {k : ℕ} {xs : List ℤ} {os os' : List (List ℤ)} {store store' : List ℕ} {a : Answer} (p : Took t k xs os store t' a os' store') where
  abbrev given : List Given
  given = gives (force_of t) (take_of t) xs

  abbrev many : length given ≡ length xs
  many = given-length (force_of t) (take_of t) xs

  -- what is kept of the last block is what the report counts
  block-figures : a.number ≡ 0 → counted_of a ≡ figures_of given
  unfolding after_block figures_of
  block-figures z =
      let answer = (took-keeps p (omega arith)).0 in
      let tuner = (took-taken p z).0 in
      ap counted_of answer ∙ cond_yes _ no_figures (eq-eqb a.number 0 z)
      ∙ (λ i. record { samples = sym many i; pitched = (tuner i).numbers.last.pitched; repeated = (tuner i).numbers.last.repeated; dropped = (tuner i).numbers.last.dropped; sum = (tuner i).numbers.last.strayed })

  block_on : a.number ≡ 0 → On t t' given (counted_of a)
  unfolding after_block heard_after
  block_on z =
      let fits = verdict-fits p.verdict (omega (arith, took_number p)) in
      let count : t'.numbers.count ≡ t.numbers.count + length xs = ap (λ (u : Tuner). u.numbers.count) (took-taken p z).0 in
      let upto = verdict-zero p.verdict (took_number p ∙ z) in
      record {
        figures = block-figures z;
        count = omega (arith, count, many);
        limit = λ h. omega (arith, count, upto);
        few = omega (arith, many, fits.most);
        within = subst (λ (f : Figures). Within (length given) f) (sym (block-figures z)) (subst (λ (n : ℕ). Within n (figures_of given)) (sym many) (gives-within (good-force fits.good) (good_sane fits.good) xs));
      }

  pub block-counts : Counts t t' (block k xs) a
  unfolding begins brought_by
  block-counts =
      record {
        from-none = λ z. absurd (yes_and_no z refl);
        on = λ z. by (eqb a.number 0)
            (λ e. rw e (subst (λ (f : Figures). On t t' given f) (cond_yes _ no_figures e) (block_on (eqb-true a.number 0 e))))
            (λ e. on_none (cond_no given [] e) (cond_no _ no_figures e) (ap (λ (u : Tuner). u.numbers.count) (untaken_unchanged p (omega (arith, eqb-false a.number 0 e))).0));
      }

-- ---- any line
fresh-count : (hertz : ℕ) (s : Settings) (listed chosen : ℕ) (vs : List Voice) → (silent_tuner (fresh_numbers hertz s listed chosen vs)).numbers.count ≡ 0
unfolding silent_tuner fresh_numbers
fresh-count hertz s listed chosen vs = refl

pub said-counts : {d d' : Desk} {l : Line} {text : List ℕ} {a : Answer} → Said d l d' text a → Counts d.tuner d'.tuner l a
unfolding begins brought_by begun_again
said-counts {d} (begun {hertz = hertz} {s = s} {v = v} p e) =
    record {
      from-none = λ z. ap (λ (u : Tuner). u.numbers.count) p.tuner
          ∙ cond_case (eqb v 0) (fresh_tuner hertz s (kept_list d.tuner.numbers.listed) []) default_tuner (λ (u : Tuner). u.numbers.count ≡ 0) (λ y. fresh-count _ _ _ _ _) (λ y. fresh-count _ _ _ _ _);
      on = λ z. absurd (yes_and_no (eq-eqb v 0 e) z);
    }
said-counts (not_begun {v = v} p n) = record { from-none = λ z. not_zero v n z; on = λ z. on_none refl (number-none v) refl }
said-counts {d} (changed {s = s} p) = number_counts refl refl (changed-count (with_four d.tuner s) p)
said-counts (taken p) = block-counts p
said-counts {d} (begun-again {v = v} p) =
    record {
      from-none = λ z. ap (λ (u : Tuner). u.numbers.count) (p.tuner ∙ cond_yes _ d.tuner z) ∙ fresh-count _ _ _ _ _;
      on = λ z. on_none refl (number-none v) (ap (λ (u : Tuner). u.numbers.count) (p.tuner ∙ cond_no (silent_tuner (begun_again d.tuner.numbers)) _ z));
    }
said-counts {d} (mode-changed {m = m} p) = number_counts refl refl (changed-count (with_mode d.tuner m) p)
said-counts {d} (channel-changed {c = c} p) = number_counts refl refl (changed-count (with_channel d.tuner c) p)
said-counts (keyed {bytes = bytes} p) = number_counts refl refl (keyed-count bytes p)
said-counts not_read = number_counts refl refl refl
