-- The loop over a block's samples: what holds after i of them, and that one more keeps it.
use Rattle.std.specs.Prelude.{◌≡◌, refl, List, [], ◌∷◌, ◌++◌, map, ℕ, ◌+◌, ◌/◌, ◌≤◌, ◌<◌, ℤ, pos, length, get_or, take, drop, set}
use Rattle.std.proofs.Common.{sym, ap, ◌∙◌, subst, add-zero, add_assoc, arith, add-one, length-drop, length-append, take-suc, length-take-le, get_or-drop, get_or-set_same, get_or-set_other}
use Rattle.std.proofs.lemmas.List.{map-append, length-map}
use Rattle.std.proofs.Math.Decide.{ℕ_discrete}
use Rattle.rules.specs.declared.InForce.{InForce}
use Rattle.rules.specs.declared.Tone.{Tone}
use Rattle.rules.specs.Rules.{Take, Given, Step, after, gives, stepped, longest_block, kept_eighths}
use Rattle.rules.proofs.Blocks.{after_more, gives_more, given-length}
use Rattle.rules.specs.Facts.{value_at}
use Rattle.rules.specs.Position.{Paced}
use Rattle.passing.specs.Distances.{Long}
use Rattle.reading.specs.Gliding.{one_more_lem}
use Rattle.steps.specs.declared.Progress.{Progress}
use Rattle.steps.specs.Running.{take_at_of, take_so_far, Tones, tones, tone_at, given, tones_given, Long512, Ready, Room, Did, Begins}

-- ---- one sample more

-- one tone more
one-given : (part : Tone → ℕ) (gs : List Given) (before : List ℕ) (g : Given) → length gs < length before → set (given part gs before) (length gs) (part g.tone) ≡ given part (gs ++ (g ∷ [])) before
one-given part gs before g l =
    one_more_lem 0 (map (λ (k : Given). part k.tone) gs) before (length gs) (part g.tone) (length-map gs _) l
    ∙ (λ j. sym (map-append (λ (k : Given). part k.tone) gs (g ∷ [])) j ++ drop (sym (length-append gs (g ∷ [])) j) before)

given-long : (part : Tone → ℕ) (gs : List Given) (before : List ℕ) → length gs ≤ length before → length (given part gs before) ≡ length before
given-long part gs before l =
    length-append (map (λ (k : Given). part k.tone) gs) (drop (length gs) before)
    ∙ (λ j. length-map gs (λ (k : Given). part k.tone) j + length-drop (length gs) before j)
    ∙ omega arith

all-given : (ts : Tones) (gs : List Given) (g : Given) → length gs < longest_block → Long512 ts → tone_at (tones_given ts gs) (length gs) g.tone ≡ tones_given ts (gs ++ (g ∷ []))
all-given ts gs g l long j =
    tones
    (one-given (λ (o : Tone). o.period) gs ts.periods g (omega (arith, long.periods)) j)
    (one-given (λ (o : Tone). o.note) gs ts.notes g (omega (arith, long.notes)) j)
    (one-given (λ (o : Tone). o.rate) gs ts.rates g (omega (arith, long.rates)) j)

-- ---- after i samples of the store s after the first m, which began with the take t

-- the samples, the take after them, and what sample number j gives
abbrev pub first : List ℤ → ℕ → ℕ → List ℤ
first s m i = take i (drop m s)

abbrev pub tone_of : InForce → Take → List ℤ → ℕ → ℕ → Tone
tone_of f t s m j = (stepped f (after f t (first s m j)) (value_at s (m + j))).given.tone

pub first-length : (s : List ℤ) (m i : ℕ) → m + i ≤ length s → length (first s m i) ≡ i
first-length s m i h = length-take-le i (drop m s) (omega (arith, length-drop m s))

-- one sample more
module _ (f : InForce) (t : Take) (s : List ℤ) (m i : ℕ) (h : m + i < length s) where
  one-first : first s m (i + 1) ≡ first s m i ++ (value_at s (m + i) ∷ [])
  one-first =
      ap (λ (n : ℕ). take n (drop m s)) (add-one i)
      ∙ take-suc (drop m s) i (pos 0) (omega (arith, length-drop m s))
      ∙ ap (λ (x : ℤ). first s m i ++ (x ∷ [])) (get_or-drop m s i (pos 0))

  pub after_one : after f t (first s m (i + 1)) ≡ (stepped f (after f t (first s m i)) (value_at s (m + i))).next
  after_one = ap (after f t) one-first ∙ after_more f t (first s m i) (value_at s (m + i))

  pub gives_one : gives f t (first s m (i + 1)) ≡ gives f t (first s m i) ++ ((stepped f (after f t (first s m i)) (value_at s (m + i))).given ∷ [])
  gives_one = ap (gives f t) one-first ∙ gives_more f t (first s m i) (value_at s (m + i))

-- they are heard, and the tone after each is stored
pub record Going (f : InForce) (s : List ℤ) (m : ℕ) (y₀ : List ℤ) (ts₀ : Tones) (p : Progress) (i : ℕ) (y : List ℤ) (e : List ℕ) (h : List ℤ) (ts : Tones) (q : Progress) : Type 0 where
  pub ready : Ready s (m + i) y e h q
  pub take : take_at_of s (m + i) y q (after f (take_so_far s m y₀ p) (first s m i)).position ≡ after f (take_so_far s m y₀ p) (first s m i)
  pub tone : ts ≡ tones_given ts₀ (gives f (take_so_far s m y₀ p) (first s m i))
  pub rate : (j : ℕ) → j < i → get_or ts.rates j 0 ≡ (tone_of f (take_so_far s m y₀ p) s m j).rate
  pub period : (j : ℕ) → j < i → get_or ts.periods j 0 ≡ (tone_of f (take_so_far s m y₀ p) s m j).period
  pub paced : (j : ℕ) → j < i → Paced (tone_of f (take_so_far s m y₀ p) s m j).rate (tone_of f (take_so_far s m y₀ p) s m j).period
  pub count : q.count ≡ p.count + i
  pub places : q.places + p.count / 8 ≡ kept_eighths + q.count / 8

pub going_none : (f : InForce) {s : List ℤ} {m : ℕ} {y : List ℤ} {e : List ℕ} {h : List ℤ} (ts : Tones) {p : Progress} {b : ℕ} → Ready s m y e h p → Begins b p → Going f s m y ts p 0 y e h ts p
unfolding after gives
going_none f {s} {m} {y} {e} {h} ts {p} r k =
    let z : m ≡ m + 0 = sym (add-zero m) in
    record {
      ready = subst (λ (n : ℕ). Ready s n y e h p) z r;
      take = ap (λ (n : ℕ). take_so_far s n y p) (sym z);
      tone = refl;
      rate = λ j l. absurd (omega arith);
      period = λ j l. absurd (omega arith);
      paced = λ j l. absurd (omega arith);
      count = sym (add-zero p.count);
      places = omega (arith, k.places);
    }

-- what holds of each number below i, and of i
below_more : (P : ℕ → Type 0) (i : ℕ) → ((j : ℕ) → j < i → P j) → P i → (j : ℕ) → j < i + 1 → P j
below_more P i before new j h = by_place (ℕ_discrete j i)
  where
    by_place : Dec (j ≡ i) → P j
    by_place (yes e) = subst P (sym e) new
    by_place (no n) = before j (omega (arith, n))

module _ {f : InForce} {s : List ℤ} {m : ℕ} {y₀ : List ℤ} {ts₀ : Tones} {p : Progress} {i : ℕ} {y : List ℤ} {e : List ℕ} {h : List ℤ} {ts : Tones} {q : Progress}
    (k : Going f s m y₀ ts₀ p i y e h ts q) (b : ℕ) (l : i < b) (few : b ≤ longest_block) (fits : m + b ≤ length s) where
  -- there is room for one more
  pub going_room : Begins b p → Room q
  going_room n = record { places = λ d. omega (arith, k.count, k.places); count = omega (arith, k.count, n.count) }

  pub going_long : Long s m → Long s (m + i)
  going_long n = record { enough = omega (arith, n.enough); long = omega arith; samples = n.samples }

  abbrev t : Take
  t = take_so_far s m y₀ p

  -- and what it gives
  abbrev d : Step
  d = stepped f (after f t (first s m i)) (value_at s (m + i))

  pub going_more : {y' : List ℤ} {e' : List ℕ} {h' : List ℤ} {ts' : Tones} {r : Progress} → Long512 ts₀ → Ready s (m + i + 1) y' e' h' r → Did f s (m + i) y q y' r ts i ts'
      → Going f s m y₀ ts₀ p (i + 1) y' e' h' ts' r
  going_more {y'} {e'} {h'} {ts'} {r} long rd did =
      let z : m + i + 1 ≡ m + (i + 1) = add_assoc m i 1 in
      let at = (after f t (first s m i)).position in
      let one : stepped f (take_at_of s (m + i) y q at) (value_at s (m + i)) ≡ d = ap (λ (u : Take). stepped f u (value_at s (m + i))) k.take in
      let same : r.pitch.tone ≡ d.given.tone = did.given at ∙ ap (λ (o : Step). o.given.tone) one in
      let next : after f t (first s m (i + 1)) ≡ d.next = after_one f t s m i (omega arith) in
      let gs = gives f t (first s m i) in
      let many : length gs ≡ i = given-length f t (first s m i) ∙ first-length s m i (omega arith) in
      let set-tone : ts' ≡ tone_at ts i d.given.tone = did.tone ∙ ap (tone_at ts i) same in
      let long-rates : length ts.rates ≡ longest_block = ap (λ (o : Tones). length o.rates) k.tone ∙ given-long (λ (o : Tone). o.rate) gs ts₀.rates (omega (arith, many, long.rates)) ∙ long.rates in
      let long-periods : length ts.periods ≡ longest_block = ap (λ (o : Tones). length o.periods) k.tone ∙ given-long (λ (o : Tone). o.period) gs ts₀.periods (omega (arith, many, long.periods)) ∙ long.periods in
      record {
        ready = subst (λ (j : ℕ). Ready s j y' e' h' r) z rd;
        take =
            (λ j. take_at_of s (sym z j) y' r (next j).position)
            ∙ ap (λ (o : Step). take_at_of s (m + i + 1) y' r o.next.position) (sym one)
            ∙ did.take at
            ∙ ap (λ (o : Step). o.next) one
            ∙ sym next;
        tone =
            set-tone
            ∙ (λ j. tone_at (k.tone j) (sym many j) d.given.tone)
            ∙ all-given ts₀ gs d.given (omega (arith, many)) long
            ∙ ap (tones_given ts₀) (sym (gives_one f t s m i (omega arith)));
        rate =
            below_more (λ (j : ℕ). get_or ts'.rates j 0 ≡ (tone_of f t s m j).rate) i
            (λ j u. ap (λ (o : Tones). get_or o.rates j 0) set-tone ∙ get_or-set_other ts.rates i j _ 0 (λ e. absurd (omega (arith, e))) ∙ k.rate j u)
            (ap (λ (o : Tones). get_or o.rates i 0) set-tone ∙ get_or-set_same ts.rates i _ 0 (omega (arith, long-rates)));
        period =
            below_more (λ (j : ℕ). get_or ts'.periods j 0 ≡ (tone_of f t s m j).period) i
            (λ j u. ap (λ (o : Tones). get_or o.periods j 0) set-tone ∙ get_or-set_other ts.periods i j _ 0 (λ e. absurd (omega (arith, e))) ∙ k.period j u)
            (ap (λ (o : Tones). get_or o.periods i 0) set-tone ∙ get_or-set_same ts.periods i _ 0 (omega (arith, long-periods)));
        paced =
            below_more (λ (j : ℕ). Paced (tone_of f t s m j).rate (tone_of f t s m j).period) i k.paced
            (subst (λ (o : Tone). Paced o.rate o.period) same did.paced);
        count = omega (arith, did.count, k.count);
        places = did.phase (p.count / 8) k.places;
      }
