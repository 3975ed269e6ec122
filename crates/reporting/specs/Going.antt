-- The input goes on, byte by byte, and comes to its end; and no second report of an input.
use Rattle.std.specs.Prelude.{◌≡◌, refl, List, [], ◌∷◌, ◌++◌, ℕ, ◌+◌, ◌≤◌, ◌<◌, ltb, length, take, get_or}
use Rattle.std.proofs.Common.{sym, ap, subst, ◌∙◌, append-nil, append_assoc, add-one, arith, ltb-false, length-append, take-suc, take_all}
use Rattle.whole.specs.Tests.{cond_case}
use Rattle.tuner.specs.declared.Tuner.{Tuner}
use Rattle.tuner.specs.declared.Answer.{Answer}
use Rattle.tuner.specs.Tuners.{fresh_numbers, silent_tuner, default_tuner}
use Rattle.lines.specs.Lines.{Line, read, desk, Desk, Said}
use Rattle.lines.specs.Laws.{read-long}
use Rattle.lines.specs.Ones.{said-one}
use Rattle.reports.specs.Reports.{no_figures, takes_lines, total_of, report_of}
use Rattle.reports.proofs.Counting.{within_none, figures-none}
use Rattle.reporting.specs.declared.Reporting.{Reporting}
use Rattle.reporting.specs.Reporting.{Takes, takes_after, Through, Reported, no_more, last_line, one_byte, line-ends, Report}
use Rattle.reporting.specs.Keeping.{reporting, Keeps, few, LineReported, SoFar}
use Rattle.reporting.specs.Held.{held_after}

-- ---- no second report

pub through-one : {A : Type 0} {more : Tuner → Line → Answer → A → A} {t : Tuner} {a : A} {line input : List ℕ} {b c : A} → Through more t a line input b → Through more t a line input c → b ≡ c
through-one no_more no_more = refl
through-one {more = more} {t} {a} (last_line {b = b} {line = line} s) (last_line s') = ap (λ (x : Answer). more t (read (b ∷ line)) x a) (said-one s s').2
through-one (one_byte n p) (one_byte m q) = through-one p q
through-one (one_byte n p) (line-ends s q) = absurd (n refl)
through-one (line-ends s p) (one_byte n q) = absurd (n refl)
through-one {more = more} {t} {a} {c = final} (line-ends {line = line} {input = input} {answer = answer} s p) (line-ends {t' = t'} s' q) =
    let o = said-one s' s in
    through-one p (subst (λ (d : Desk). Through more d.tuner (more t (read line) answer a) [] input final) o.0 (subst (λ (x : Answer). Through more t' (more t (read line) x a) [] input final) o.2 q))

-- every byte of a report is determined by the input
pub report-one : {input a b : List ℕ} → Report input a → Report input b → a ≡ b
report-one p q = p.text ∙ ap report_of (through-one p.reported q.reported) ∙ sym q.text

-- ---- lines that are too long are alike

read_alike : (a b : List ℕ) → 8192 < length a → 8192 < length b → read a ≡ read b
read_alike a b h l = read-long a h ∙ sym (read-long b l)

alike : {t : Tuner} {takes : Takes} {a b input : List ℕ} {final : Takes} → 8192 < length a → 8192 < length b → Reported t takes a input final → Reported t takes b input final
alike h l no_more = absurd (omega arith)
alike {b = []} h l (last_line s) = absurd (omega arith)
alike {t} {takes} {b = c ∷ cs} h l (last_line {b = b} {line = line} {t' = t'} {text = text} {answer = answer} s) =
    let e = read_alike (b ∷ line) (c ∷ cs) h l in
    subst (λ (x : Line). Reported t takes (c ∷ cs) [] (takes_after t x answer takes)) (sym e) (last_line (subst (λ (x : Line). Said (desk t []) x (desk t' []) text answer) e s))
alike {a} {b} h l (one_byte {b = x} n p) = one_byte {line = b} n (alike (omega (arith, length-append a (x ∷ []))) (omega (arith, length-append b (x ∷ []))) p)
alike {t} {takes} {a} {b} {final = final} h l (line-ends {input = input} {t' = t'} {text = text} {answer = answer} s p) =
    let e = read_alike a b h l in
    line-ends (subst (λ (x : Line). Said (desk t []) x (desk t' []) text answer) e s) (subst (λ (x : Line). Reported t' (takes_after t x answer takes) [] input final) e p)

-- ---- the opening
pub so_far_none : {r : Reporting} (out : List ℕ) → r ≡ reporting default_tuner 1 no_figures no_figures 0 → SoFar [] r [] out
unfolding silent_tuner fresh_numbers takes_lines total_of
so_far_none out e =
    subst (λ (x : Reporting). SoFar [] x [] out) (sym e)
    (record {
      takes = [] ∷ [];
      keeps =
          few (omega arith)
          (record {
            takes = refl;
            now = sym figures-none;
            before = refl;
            text = refl;
            count = refl;
            small = omega arith;
            now-within = within_none;
            before-within = within_none;
            short = omega arith;
          });
      goes = λ more final p. p;
    })

-- ---- one byte more
module _ {input : List ℕ} {r : Reporting} {held out : List ℕ} (s : SoFar input r held out) where
  -- a byte more of all that came
  then_byte : (b : ℕ) (more : List ℕ) → (input ++ (b ∷ [])) ++ more ≡ input ++ (b ∷ more)
  then_byte b more = append_assoc input (b ∷ []) more

  pub byte-held : (b : ℕ) → (b ≡ 10 → ⊥) → SoFar (input ++ (b ∷ [])) r (held ++ (b ∷ [])) out
  byte-held b n =
      record {
        takes = s.takes;
        keeps = s.keeps;
        goes = λ more final p. subst (λ (l : List ℕ). Reported default_tuner ([] ∷ []) [] l final) (sym (then_byte b more)) (s.goes (b ∷ more) final (one_byte n p));
      }

  -- what is held is too long already
  pub byte-passed : (b : ℕ) → (b ≡ 10 → ⊥) → 8192 < length held → SoFar (input ++ (b ∷ [])) r held out
  byte-passed b n h =
      record {
        takes = s.takes;
        keeps = s.keeps;
        goes = λ more final p.
            subst (λ (l : List ℕ). Reported default_tuner ([] ∷ []) [] l final) (sym (then_byte b more))
            (s.goes (b ∷ more) final (one_byte n (alike h (omega (arith, length-append held (b ∷ []))) p)));
      }

  pub line-ended : {q : Reporting} {out' : List ℕ} → LineReported r.tuner held s.takes q out' → SoFar (input ++ (10 ∷ [])) q [] out'
  line-ended l =
      record {
        takes = takes_after r.tuner (read held) l.answer s.takes;
        keeps = l.keeps;
        goes = λ more final p. subst (λ (x : List ℕ). Reported default_tuner ([] ∷ []) [] x final) (sym (then_byte 10 more)) (s.goes (10 ∷ more) final (line-ends l.said p));
      }

  -- ---- the end of the input
  pub ended-none : {text : List ℕ} → length held ≡ 0 → text ≡ report_of s.takes → Report input text
  ended-none e t =
      record {
        takes = s.takes;
        reported = subst (λ (x : List ℕ). Reported default_tuner ([] ∷ []) [] x s.takes) (append-nil input) (s.goes [] s.takes (go held e));
        text = t;
      }
    where
      go : (h : List ℕ) → length h ≡ 0 → Reported r.tuner s.takes h [] s.takes
      go [] z = no_more
      go (b ∷ h) z = absurd (omega arith)

  pub ended-line : {q : Reporting} {out' text : List ℕ} → (length held ≡ 0 → ⊥) → (l : LineReported r.tuner held s.takes q out') → text ≡ report_of (takes_after r.tuner (read held) l.answer s.takes) → Report input text
  ended-line n l t =
      record {
        takes = takes_after r.tuner (read held) l.answer s.takes;
        reported = subst (λ (x : List ℕ). Reported default_tuner ([] ∷ []) [] x (takes_after r.tuner (read held) l.answer s.takes)) (append-nil input) (s.goes [] _ (go held n l.said));
        text = t;
      }
    where
      go : (h : List ℕ) → (length h ≡ 0 → ⊥) → {t' : Tuner} {x : List ℕ} {a : Answer} → Said (desk r.tuner []) (read h) (desk t' []) x a → Reported r.tuner s.takes h [] (takes_after r.tuner (read h) a s.takes)
      go [] z p = absurd (z refl)
      go (b ∷ h) z p = last_line p

-- ---- a piece of the input, byte by byte

-- the bytes that are held, the output and the report
pub record State : Type 0 where
  pub held : List ℕ
  pub out : List ℕ
  pub report : Reporting

abbrev SoFarIn : List ℕ → State → Type 0
SoFarIn input s = SoFar input s.report s.held s.out

-- one byte
pub record Stepped (b : ℕ) (s s' : State) : Type 0 where
  pub out : length s'.out ≡ length s.out
  pub goes : (before : List ℕ) → SoFarIn before s → SoFarIn (before ++ (b ∷ [])) s'

module _ {b : ℕ} {held out : List ℕ} {q : Reporting} where
  pub stepped_line : {out' : List ℕ} {q' : Reporting} → b ≡ 10 → length out' ≡ length out → ((takes : Takes) → Keeps q out takes → LineReported q.tuner held takes q' out')
      → Stepped b (record { held = held; out = out; report = q }) (record { held = []; out = out'; report = q' })
  stepped_line {out'} {q'} e same l =
      record {
        out = same;
        goes = λ before s. subst (λ (x : ℕ). SoFar (before ++ (x ∷ [])) q' [] out') (sym e) (line-ended s (l s.takes s.keeps));
      }

  pub stepped-byte : {held' : List ℕ} → (b ≡ 10 → ⊥) → held' ≡ held_after held b → Stepped b (record { held = held; out = out; report = q }) (record { held = held'; out = out; report = q })
  stepped-byte other e =
      record {
        out = refl;
        goes = λ before s.
            subst (λ (h : List ℕ). SoFar (before ++ (b ∷ [])) q h out) (sym e)
            (cond_case (ltb (length held) 8193) (held ++ (b ∷ [])) held (λ (h : List ℕ). SoFar (before ++ (b ∷ [])) q h out)
            (λ z. byte-held s b other)
            (λ z. byte-passed s b other (omega (arith, ltb-false (length held) 8193 z))));
      }

-- after the first i bytes of a piece
pub record Going (input : List ℕ) (i : ℕ) (s₀ s : State) : Type 0 where
  pub out : length s.out ≡ length s₀.out
  pub so_far : (before : List ℕ) → SoFarIn before s₀ → SoFarIn (before ++ take i input) s

pub going_none : (input : List ℕ) {s : State} → Going input 0 s s
going_none input {s} = record { out = refl; so_far = λ before p. subst (λ (l : List ℕ). SoFarIn l s) (sym (append-nil before)) p }

piece_more : (before input : List ℕ) (i : ℕ) → i < length input → before ++ take (i + 1) input ≡ (before ++ take i input) ++ (get_or input i 0 ∷ [])
piece_more before input i h = ap (λ (l : List ℕ). before ++ l) (ap (λ (n : ℕ). take n input) (add-one i) ∙ take-suc input i 0 h) ∙ sym (append_assoc before (take i input) (get_or input i 0 ∷ []))

pub going_more : {input : List ℕ} {i : ℕ} {s₀ s s' : State} → i < length input → Going input i s₀ s → Stepped (get_or input i 0) s s' → Going input (i + 1) s₀ s'
going_more {input} {i} {s' = s'} h g t =
    record {
      out = t.out ∙ g.out;
      so_far = λ before p. subst (λ (l : List ℕ). SoFarIn l s') (sym (piece_more before input i h)) (t.goes (before ++ take i input) (g.so_far before p));
    }

pub going_all : {input : List ℕ} {i : ℕ} {s₀ s : State} → length input ≤ i → Going input i s₀ s → (before : List ℕ) → SoFarIn before s₀ → SoFarIn (before ++ input) s
going_all {input} {i} {s = s} h g before p = subst (λ (l : List ℕ). SoFarIn (before ++ l) s) (take_all i input h) (g.so_far before p)
