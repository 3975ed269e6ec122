-- How far a night has come: what its loop and its parts promise, and that in the end it is the single calls one by one.
use Rattle.std.specs.Prelude.{◌≡◌, ℕ, zero, suc, ◌+◌, ◌-◌, ◌*◌, ◌<◌, ◌≤◌, min, cond, ◌⊎◌, List, [], ◌∷◌, ◌++◌, map, length, take, drop, ℤ, ◌==◌, ◌≢◌, nat_le, refl}
use Rattle.std.proofs.Common.{sym, ap, ◌∙◌, append_assoc, append-nil, arith, leb-true, leb-false, take-append-drop, length-append, length-drop, length-take, drop_of_length-le, take-add, take_all, take_at, drop_at, drop-drop, length-take-le}
use Rattle.std.proofs.Math.Path.{subst, transport}
use Rattle.whole.specs.Tests.{by, cond_case}
use Rattle.rules.specs.Rules.{longest_block}
use Rattle.refusals.specs.declared.Refusal.{Refusal}
use Rattle.refusals.specs.Refusals.{refusal_number}
use Rattle.record.specs.Records.{heard_after}
use Rattle.tuner.specs.declared.Numbers.{Numbers}
use Rattle.tuner.specs.declared.Tuner.{Tuner}
use Rattle.tuner.specs.declared.Answer.{Answer}
use Rattle.tuner.specs.Tuners.{Good, parts, kept_outs, Roomy, Fits, Verdict, record_out_of_range, block_empty, block_over_512, output_short, number-neither, other-samples, given-again, take-full, taken, after_block, Took}
use Rattle.tuner.specs.Following.{LeastRoom}
use Rattle.tuner.proofs.Outputs.{room_after}
use Rattle.tuner.proofs.Verdicts.{verdict-fits, after_last}
use Rattle.staying.specs.Staying.{Stays, took-stays, took_number, took-taken, untaken_unchanged}
use Rattle.nights.specs.declared.NightAnswer.{NightAnswer}
use Rattle.nights.specs.Night.{first_stretches, stretches, number_after, no_night, added_by, added, before, OneByOne, all_done, and_on, refused, Nighted, size_out_of_range}
use Rattle.nights.specs.Night as promise

-- ---- what the parts promise

-- what a night has added up: of each block taken less than 2^32
pub record Small (n : NightAnswer) : Type 0 where
  pub written : n.written ≤ 4294967296 * n.taken
  pub repeated : n.repeated ≤ 4294967296 * n.taken
  pub dropped : n.dropped ≤ 4294967296 * n.taken
  pub pitched : n.pitched ≤ 4294967296 * n.taken
  pub strayed : n.strayed ≤ 4294967296 * n.taken

-- outputs as long as others, and the same up to a place
unfoldable pub Kept : ℕ → List (List ℤ) → List (List ℤ) → Type 0
Kept at [] [] = Unit
Kept at [] (p ∷ ps) = ⊥
Kept at (o ∷ os) [] = ⊥
Kept at (o ∷ os) (p ∷ ps) = (take at p ≡ take at o) × (length p ≡ length o) × Kept at os ps

-- one block more, with the outputs from a place on
pub record Went (at k : ℕ) (xs : List ℤ) (t t' : Tuner) (a : Answer) (os os' : List (List ℤ)) (store store' : List ℕ) : Type 0 where
  pub took : Took t k xs (map (drop at) os) store t' a (map (drop at) os') store'
  pub kept : Kept at os os'

-- the number that refuses a night before its first block, or 0
pub data Refuses (t : Tuner) (size : ℕ) (xs : List ℤ) (os : List (List ℤ)) : ℕ → Type 0 where
  by_nine : (Good t → ⊥) → Refuses t size xs os 9
  by_three : Good t → (size ≡ 0) ⊎ (longest_block < size) → Refuses t size xs os 3
  by_four : Good t → 0 < size → size ≤ longest_block → (Roomy (length xs) (kept_outs t) os → ⊥) → Refuses t size xs os 4
  begins : Good t → 0 < size → size ≤ longest_block → Roomy (length xs) (kept_outs t) os → Refuses t size xs os 0

-- ---- what a block leaves

-- as many voices are chosen
chosen_by : (v : ℕ) (t : Tuner) (k : ℕ) (xs : List ℤ) (store : List ℕ) → (cond (v == 0) (after_block t k xs store) t).numbers.chosen ≡ t.numbers.chosen
chosen_by v t k xs store = cond_case (v == 0) (after_block t k xs store) t (λ (u : Tuner). u.numbers.chosen ≡ t.numbers.chosen) (λ e. (after_last t k xs store).1) (λ e. refl)

-- ---- the counts

module _ {t t' : Tuner} {k : ℕ} {xs : List ℤ} {os os' : List (List ℤ)} {store store' : List ℕ} {a : Answer} (p : Took t k xs os store t' a os' store') where
  -- a block that is taken is not empty, and its samples are counted
  taken-counts : a.number ≡ 0 → (t'.numbers.count ≡ t.numbers.count + length xs) × (0 < length xs)
  unfolding after_block heard_after
  taken-counts e = (ap (λ (u : Tuner). u.numbers.count) (took-taken p e).0, (verdict-fits p.verdict (omega (arith, took_number p, e))).nonempty)

  few-by : (v : ℕ) (n : NightAnswer) → a.number ≡ v → n.taken ≤ t.numbers.count → (added_by v n k a).taken ≤ t'.numbers.count
  unfolding added_by
  few-by zero n e f = let c = taken-counts e in omega (arith, f, c.0, c.1)
  few-by (suc zero) n e f = subst (λ (u : Tuner). n.taken ≤ u.numbers.count) (sym (untaken_unchanged p (omega arith)).0) f
  few-by (suc (suc v)) n e f = subst (λ (u : Tuner). n.taken ≤ u.numbers.count) (sym (untaken_unchanged p (omega arith)).0) f

-- where a night begins
pub nothing-small : (v : ℕ) (m : Numbers) {n : NightAnswer} → n ≡ no_night v m → Small n × (n.taken ≡ 0)
nothing-small v m e = subst (λ (n : NightAnswer). Small n × (n.taken ≡ 0)) (sym e) (record { written = omega arith; repeated = omega arith; dropped = omega arith; pitched = omega arith; strayed = omega arith }, refl)

-- ---- stretches

enough : (n m size : ℕ) (l : List ℤ) → 0 < size → length l ≤ n → length l ≤ m → first_stretches n size l ≡ first_stretches m size l
unfolding first_stretches
enough zero zero size l h p q = refl
enough zero (suc m) size [] h p q = refl
enough zero (suc m) size (x ∷ l) h p q = absurd (omega arith)
enough (suc n) zero size [] h p q = refl
enough (suc n) zero size (x ∷ l) h p q = absurd (omega arith)
enough (suc n) (suc m) size [] h p q = refl
enough (suc n) (suc m) size (x ∷ l) h p q =
    let d = length-drop size (x ∷ l) in
    ap (λ (ls : List (List ℤ)). take size (x ∷ l) ∷ ls) (enough n m size (drop size (x ∷ l)) h (omega arith) (omega arith))

stretches-more : (size : ℕ) (l : List ℤ) → 0 < size → 0 < length l → stretches size l ≡ take size l ∷ stretches size (drop size l)
unfolding first_stretches
stretches-more size [] h p = absurd (omega arith)
stretches-more size (x ∷ l) h p =
    let d = length-drop size (x ∷ l) in
    ap (λ (ls : List (List ℤ)). take size (x ∷ l) ∷ ls) (enough (length l) (length (drop size (x ∷ l))) size (drop size (x ∷ l)) h (omega arith) (omega arith))

stretches-none : (size : ℕ) (l : List ℤ) → length l ≡ 0 → stretches size l ≡ []
unfolding first_stretches
stretches-none size [] e = refl
stretches-none size (x ∷ l) e = absurd (omega arith)

-- a chunk is the first stretch, and what is behind it is the rest
module _ (zs left : List ℤ) (size : ℕ) (long : length zs ≡ min size (length (zs ++ left))) where
  block_first : take size (zs ++ left) ≡ zs
  block_first =
      by (nat_le size (length (zs ++ left)))
      (λ e. take_at zs left size (omega (arith, long, leb-true size (length (zs ++ left)) e)))
      (λ e. let m = leb-false size (length (zs ++ left)) e in
      take_all size (zs ++ left) (omega arith) ∙ ap (λ (l : List ℤ). zs ++ l) (drop_of_length-le left {i = 0} (omega (arith, long, m, length-append zs left))) ∙ append-nil zs)

  block_rest : drop size (zs ++ left) ≡ left
  block_rest =
      by (nat_le size (length (zs ++ left)))
      (λ e. drop_at zs left size (omega (arith, long, leb-true size (length (zs ++ left)) e)))
      (λ e. let m = leb-false size (length (zs ++ left)) e in
      drop_of_length-le (zs ++ left) {i = size} (omega arith) ∙ sym (drop_of_length-le left {i = 0} (omega (arith, long, m, length-append zs left))))

-- ---- one output, from a place on: lent, and given back. The place may lie behind its end

module _ (at : ℕ) (ys : List ℤ) where
  take_cut : take (min at (length ys)) ys ≡ take at ys
  take_cut =
      by (nat_le at (length ys))
      (λ e. let m : min at (length ys) ≡ at = omega (arith, leb-true at (length ys) e) in ap (λ (n : ℕ). take n ys) m)
      (λ e. let m = leb-false at (length ys) e in take_all (min at (length ys)) ys (omega arith) ∙ sym (take_all at ys (omega arith)))

  drop_cut : drop (min at (length ys)) ys ≡ drop at ys
  drop_cut =
      by (nat_le at (length ys))
      (λ e. let m : min at (length ys) ≡ at = omega (arith, leb-true at (length ys) e) in ap (λ (n : ℕ). drop n ys) m)
      (λ e. let m = leb-false at (length ys) e in drop_of_length-le ys {i = min at (length ys)} (omega arith) ∙ sym (drop_of_length-le ys {i = at} (omega arith)))

  pub rest-lent : {p : ℕ} → p ≡ min at (length ys) → take (length ys - p) (drop p ys) ≡ drop at ys
  rest-lent {p} e = take_all (length ys - p) (drop p ys) (omega (arith, length-drop p ys)) ∙ ap (λ (n : ℕ). drop n ys) e ∙ drop_cut

  back_is : (w : List ℤ) {p : ℕ} → p ≡ min at (length ys) → take p ys ++ (w ++ drop (length ys - p) (drop p ys)) ≡ take at ys ++ w
  back_is w {p} e =
      let none : drop (length ys - p) (drop p ys) ≡ [] = drop_of_length-le (drop p ys) {i = length ys - p} (omega (arith, length-drop p ys)) in
      (λ i. take p ys ++ (w ++ none i)) ∙ ap (λ (l : List ℤ). take p ys ++ l) (append-nil w) ∙ ap (λ (l : List ℤ). l ++ w) (ap (λ (n : ℕ). take n ys) e ∙ take_cut)

  -- what is put there is as long as what was
  module _ (w : List ℤ) (same : length w ≡ length ys - at) where
    nothing : length w ≡ 0 → w ≡ []
    nothing z = drop_of_length-le w {i = 0} (omega arith)

    put_front : take at (take at ys ++ w) ≡ take at ys
    put_front =
        by (nat_le at (length ys))
        (λ e. take_at (take at ys) w at (length-take-le at ys (leb-true at (length ys) e)))
        (λ e. let m = leb-false at (length ys) e in
        take_all at (take at ys ++ w) (omega (arith, length-append (take at ys) w, length-take at ys))
        ∙ ap (λ (l : List ℤ). take at ys ++ l) (nothing (omega arith)) ∙ append-nil (take at ys))

    put_rest : drop at (take at ys ++ w) ≡ w
    put_rest =
        by (nat_le at (length ys))
        (λ e. drop_at (take at ys) w at (length-take-le at ys (leb-true at (length ys) e)))
        (λ e. let m = leb-false at (length ys) e in drop_of_length-le (take at ys ++ w) {i = at} (omega (arith, length-append (take at ys) w, length-take at ys)) ∙ sym (nothing (omega arith)))

  -- both at once
  pub put_back : (w : List ℤ) {p : ℕ} {zs : List ℤ} → p ≡ min at (length ys) → zs ≡ take p ys ++ (w ++ drop (length ys - p) (drop p ys)) → length zs ≡ length ys → (drop at zs ≡ w) × (take at zs ≡ take at ys)
  put_back w e f long =
      let is = f ∙ back_is w e in
      let same : length w ≡ length ys - at = omega (arith, ap length is, long, length-append (take at ys) w, length-take at ys) in
      (ap (drop at) is ∙ put_rest w same, ap (take at) is ∙ put_front w same)

-- ---- all outputs

pub kept_same : (at : ℕ) (os : List (List ℤ)) → Kept at os os
unfolding Kept
kept_same at [] = tt
kept_same at (o ∷ os) = (refl, refl, kept_same at os)

kept-many : (at : ℕ) (os ps : List (List ℤ)) → Kept at os ps → length ps ≡ length os
unfolding Kept
kept-many at [] [] k = refl
kept-many at [] (p ∷ ps) k = absurd k
kept-many at (o ∷ os) [] k = absurd k
kept-many at (o ∷ os) (p ∷ ps) k = ap suc (kept-many at os ps k.2)

-- as long as the first
pub kept_on : (at : ℕ) (os ps qs : List (List ℤ)) → Kept 0 os ps → Kept at ps qs → Kept 0 os qs
unfolding Kept
kept_on at [] [] [] k l = tt
kept_on at [] [] (q ∷ qs) k l = absurd l
kept_on at [] (p ∷ ps) qs k l = absurd k
kept_on at (o ∷ os) [] qs k l = absurd k
kept_on at (o ∷ os) (p ∷ ps) [] k l = absurd l
kept_on at (o ∷ os) (p ∷ ps) (q ∷ qs) k l = (refl, l.1 ∙ k.1, kept_on at os ps qs k.2 l.2)

kept-room : (at n : ℕ) (ks os ps : List (List ℤ)) → Kept at os ps → Roomy n ks os → Roomy n ks ps
unfolding Kept Roomy
kept-room at n [] os ps k r = tt
kept-room at n (q ∷ ks) [] ps k r = absurd r
kept-room at n (q ∷ ks) (o ∷ os) [] k r = absurd k
kept-room at n (q ∷ ks) (o ∷ os) (p ∷ ps) k r = (omega (arith, k.1, r.0), kept-room at n ks os ps k.2 r.1)

-- room for fewer samples
pub roomy_less : (m n : ℕ) (ks os : List (List ℤ)) → n ≤ m → Roomy m ks os → Roomy n ks os
unfolding Roomy
roomy_less m n [] os h r = tt
roomy_less m n (k ∷ ks) [] h r = absurd r
roomy_less m n (k ∷ ks) (o ∷ os) h r = (omega (arith, h, r.0), roomy_less m n ks os h r.1)

-- a block from a place on has room where the recording has
pub part_room : (at b n : ℕ) (ks os : List (List ℤ)) → at + b ≤ n → Roomy n ks os → Roomy b ks (map (drop at) os)
unfolding Roomy
part_room at b n [] os h r = tt
part_room at b n (k ∷ ks) [] h r = absurd r
part_room at b n (k ∷ ks) (o ∷ os) h r = (omega (arith, h, r.0, length-drop at o), part_room at b n ks os h r.1)

before-many : (n : ℕ) (ps qs : List (List ℤ)) → length (before n ps qs) ≡ length ps
unfolding before
before-many n [] qs = refl
before-many n (p ∷ ps) [] = refl
before-many n (p ∷ ps) (q ∷ qs) = ap suc (before-many n ps qs)

before-none : (ps qs : List (List ℤ)) → length qs ≡ length ps → before 0 ps qs ≡ qs
unfolding before
before-none [] [] e = refl
before-none [] (q ∷ qs) e = absurd (omega arith)
before-none (p ∷ ps) [] e = absurd (omega arith)
before-none (p ∷ ps) (q ∷ qs) e = ap (λ (ls : List (List ℤ)). q ∷ ls) (before-none ps qs (omega arith))

rest-none : (os : List (List ℤ)) → map (drop 0) os ≡ os
rest-none [] = refl
rest-none (o ∷ os) = ap (λ (ls : List (List ℤ)). o ∷ ls) (rest-none os)

rest-many : (at : ℕ) (os : List (List ℤ)) → length (map (drop at) os) ≡ length os
rest-many at [] = refl
rest-many at (o ∷ os) = ap suc (rest-many at os)

rest-rest : (b at : ℕ) (os : List (List ℤ)) → map (drop b) (map (drop at) os) ≡ map (drop (at + b)) os
rest-rest b at [] = refl
rest-rest b at (o ∷ os) = λ i. drop-drop b at o i ∷ rest-rest b at os i

-- what was written up to a place, and what is behind it
before-rest : (at : ℕ) (os ps : List (List ℤ)) → Kept at os ps → before at os (map (drop at) ps) ≡ ps
unfolding Kept before
before-rest at [] [] k = refl
before-rest at [] (p ∷ ps) k = absurd k
before-rest at (o ∷ os) [] k = absurd k
before-rest at (o ∷ os) (p ∷ ps) k = λ i. (ap (λ (l : List ℤ). l ++ drop at p) (sym k.0) ∙ take-append-drop at p) i ∷ before-rest at os ps k.2 i

-- and further on by b
before_on : (at b : ℕ) (os ps qs : List (List ℤ)) → Kept at os ps → before at os (before b (map (drop at) ps) qs) ≡ before (at + b) ps qs
unfolding Kept before
before_on at b [] [] qs k = refl
before_on at b [] (p ∷ ps) qs k = absurd k
before_on at b (o ∷ os) [] qs k = absurd k
before_on at b (o ∷ os) (p ∷ ps) [] k = before-rest at (o ∷ os) (p ∷ ps) k
before_on at b (o ∷ os) (p ∷ ps) (q ∷ qs) k =
    λ i. (ap (λ (l : List ℤ). l ++ (take b (drop at p) ++ q)) (sym k.0) ∙ sym (append_assoc (take at p) (take b (drop at p)) q) ∙ ap (λ (l : List ℤ). l ++ q) (sym (take-add at b p))) i
    ∷ before_on at b os ps qs k.2 i

-- ---- the loop

-- what holds between two blocks: the tuner is good, its outputs have room for what is left, and what is left of the night makes it whole
pub record Going (t₀ : Tuner) (k₀ size : ℕ) (n₀ : NightAnswer) (xs : List ℤ) (os₀ : List (List ℤ)) (store₀ : List ℕ) (t : Tuner) (k at : ℕ) (left : List ℤ) (n : NightAnswer) (os : List (List ℤ)) (store : List ℕ) : Type 0 where
  pub stays : Stays t
  pub room : Roomy (at + length left) (kept_outs t) os
  pub small : Small n
  pub few : n.taken ≤ t.numbers.count
  pub whole : (t' : Tuner) (n' : NightAnswer) (qs : List (List ℤ)) (s' : List ℕ) → length qs ≡ length os → OneByOne t k n (stretches size left) (map (drop at) os) store t' n' qs s' → OneByOne t₀ k₀ n₀ (stretches size xs) os₀ store₀ t' n' (before at os qs) s'

-- where it begins
pub go-begins : (t : Tuner) (k size : ℕ) (xs : List ℤ) (os : List (List ℤ)) (store : List ℕ) → Stays t → Roomy (length xs) (kept_outs t) os → Going t k size (no_night 0 t.numbers) xs os store t k 0 xs (no_night 0 t.numbers) os store
go-begins t k size xs os store s r =
    let z = nothing-small 0 t.numbers refl in
    record {
      stays = s;
      room = subst (λ (m : ℕ). Roomy m (kept_outs t) os) (omega arith) r;
      small = z.0;
      few = omega (arith, z.1);
      whole = λ t' n' qs s' l q. transport (λ i. OneByOne t k (no_night 0 t.numbers) (stretches size xs) (rest-none os i) store t' n' (sym (before-none os qs l) i) s') q;
    }

-- a chunk is the first stretch of what is left
first_of_left : (zs left : List ℤ) (size : ℕ) → 0 < size → length zs ≡ min size (length (zs ++ left)) → 0 < length (zs ++ left) → stretches size (zs ++ left) ≡ zs ∷ stretches size left
first_of_left zs left size some long more = stretches-more size (zs ++ left) some more ∙ (λ i. block_first zs left size long i ∷ stretches size (block_rest zs left size long i))

module _ {t₀ t t' : Tuner} {k₀ k size at : ℕ} {n₀ n n' : NightAnswer} {xs zs rest : List ℤ} (left : List ℤ) {os₀ os os' : List (List ℤ)} {store₀ store store' : List ℕ} {a : Answer}
    (some : 0 < size) (is : rest ≡ zs ++ left) (long : length zs ≡ min size (length rest)) (more : 0 < length rest)
    (w : Went at k zs t t' a os os' store store') (sum : n' ≡ added n k a)
    (g : Going t₀ k₀ size n₀ xs os₀ store₀ t k at rest n os store) where
  blocks : stretches size rest ≡ zs ∷ stretches size left
  blocks = ap (stretches size) is ∙ first_of_left zs left size some (long ∙ ap (λ (l : List ℤ). min size (length l)) is) (subst (λ (l : List ℤ). 0 < length l) is more)

  many : length (map (drop at) os') ≡ length os
  many = rest-many at os' ∙ kept-many at os os' w.kept

  -- a block that is refused ends the night
  pub go-stops : 1 < a.number → OneByOne t₀ k₀ n₀ (stretches size xs) os₀ store₀ t' n' os' store'
  go-stops h =
      transport (λ i. OneByOne t₀ k₀ n₀ (stretches size xs) os₀ store₀ t' (sym sum i) (before-rest at os os' w.kept i) store')
      (g.whole t' _ _ store' many
      (transport (λ i. OneByOne t k n (sym blocks i) (map (drop at) os) store t' (added n k a) (map (drop at) os') store') (refused w.took h)))

  -- any other is followed by the rest
  pub go-more : a.number ≤ 1 → Small n' → Going t₀ k₀ size n₀ xs os₀ store₀ t' (number_after k) (at + length zs) left n' os' store'
  go-more h small =
      let place : at + length rest ≡ at + length zs + length left = omega (arith, ap length is, length-append zs left) in
      record {
        stays = took-stays g.stays.0 g.stays.1 w.took;
        room =
            subst (λ (m : ℕ). Roomy m (kept_outs t') os') place
            (kept-room at (at + length rest) (kept_outs t') os os' w.kept
            (room_after t t'.outs os (at + length rest) t'.numbers.chosen (at + length rest) refl
            (ap (λ (u : Tuner). u.numbers.chosen) w.took.tuner ∙ chosen_by w.took.number t k zs store) g.room));
        small = small;
        few = subst (λ (m : NightAnswer). m.taken ≤ t'.numbers.count) (sym sum) (few-by w.took a.number n refl g.few);
        whole =
            λ t'' n'' qs s'' l q.
            transport (λ i. OneByOne t₀ k₀ n₀ (stretches size xs) os₀ store₀ t'' n'' (before_on at (length zs) os os' qs w.kept i) s'')
            (g.whole t'' n'' _ s'' (before-many (length zs) (map (drop at) os') qs ∙ many)
            (transport (λ i. OneByOne t k n (sym blocks i) (map (drop at) os) store t'' n'' (before (length zs) (map (drop at) os') qs) s'')
            (and_on w.took h
            (transport (λ i. OneByOne t' (number_after k) (sum i) (stretches size left) (sym (rest-rest (length zs) at os') i) store' t'' n'' qs s'') q))));
      }

-- where no block is left
pub go-ends : {t₀ t : Tuner} {k₀ k size at : ℕ} {n₀ n : NightAnswer} {xs left : List ℤ} {os₀ os : List (List ℤ)} {store₀ store : List ℕ} → length left ≡ 0 → Going t₀ k₀ size n₀ xs os₀ store₀ t k at left n os store → OneByOne t₀ k₀ n₀ (stretches size xs) os₀ store₀ t n os store
go-ends {t₀} {t} {k₀} {k} {size} {at} {n₀} {n} {xs} {left} {os₀} {os} {store₀} {store} none g =
    transport (λ i. OneByOne t₀ k₀ n₀ (stretches size xs) os₀ store₀ t n (before-rest at os os (kept_same at os) i) store)
    (g.whole t n (map (drop at) os) store (rest-many at os)
    (transport (λ i. OneByOne t k n (sym (stretches-none size left none) i) (map (drop at) os) store t n (map (drop at) os) store) all_done))

-- ---- a block that has room in each output that is asked for is judged by its own length

-- outputs just as long as the block
fits-exactly : (n : ℕ) (xs : List ℤ) (ks : List (List ℤ)) → n ≤ length xs → Roomy n ks (map (λ (k : List ℤ). xs) ks)
unfolding Roomy
fits-exactly n xs [] h = tt
fits-exactly n xs (k ∷ ks) h = (h, fits-exactly n xs ks h)

least-exactly : (n : ℕ) (xs zs : List ℤ) (m : ℕ) {many : ℕ} → many ≡ suc m → Roomy n (parts many zs) (map (λ (k : List ℤ). xs) (parts many zs)) → n ≤ length xs
least-exactly n xs zs m e r = first (subst (λ (j : ℕ). Roomy n (parts j zs) (map (λ (k : List ℤ). xs) (parts j zs))) e r)
  where
    first : Roomy n (parts (suc m) zs) (map (λ (k : List ℤ). xs) (parts (suc m) zs)) → n ≤ length xs
    first r = unfold Roomy parts in r.0

exactly : (t : Tuner) (xs : List ℤ) → LeastRoom t (map (λ (k : List ℤ). xs) (kept_outs t)) (length xs)
exactly t xs = record { fits = λ n h. fits-exactly n xs (kept_outs t) h; least = λ n r. least-exactly n xs t.outs t.numbers.chosen (omega arith) r }

module _ {t : Tuner} {xs : List ℤ} {os os' : List (List ℤ)} (room : Roomy (length xs) (kept_outs t) os) (room' : Roomy (length xs) (kept_outs t) os') where
  fits-alike : Fits t xs os → Fits t xs os'
  fits-alike f = record { good = f.good; nonempty = f.nonempty; most = f.most; room = room' }

  judged-alike : {k v : ℕ} → Verdict t k xs os v → Verdict t k xs os' v
  judged-alike (record_out_of_range n) = record_out_of_range n
  judged-alike (block_empty g e) = block_empty g e
  judged-alike (block_over_512 g l) = block_over_512 g l
  judged-alike (output_short g z l s) = absurd (s room)
  judged-alike (number-neither f n m) = number-neither (fits-alike f) n m
  judged-alike (other-samples f i n) = other-samples (fits-alike f) i n
  judged-alike (given-again f i s) = given-again (fits-alike f) i s
  judged-alike (take-full f n e l) = take-full (fits-alike f) n e l
  judged-alike (taken f n e l) = taken (fits-alike f) n e l

-- a tuner's verdict for outputs with just the block's room is its verdict for outputs with that room or more
pub judged-here : {t : Tuner} {k : ℕ} {xs : List ℤ} {os : List (List ℤ)} {v : ℕ} → ((os : List (List ℤ)) → LeastRoom t os (length xs) → Good t → Verdict t k xs os v) → Good t → Roomy (length xs) (kept_outs t) os → Verdict t k xs os v
judged-here {t} {k} {xs} {os} j good room =
    judged-alike (fits-exactly (length xs) xs (kept_outs t) (omega arith)) room (j (map (λ (k : List ℤ). xs) (kept_outs t)) (exactly t xs) good)

-- ---- the promise by its number

pub above_one : (r : Refusal) → 1 < refusal_number r
above_one r = grind arith

module _ {t : Tuner} {k size : ℕ} {xs : List ℤ} {os : List (List ℤ)} {store : List ℕ} where
  -- refused before its first block
  pub night-refused : {v : ℕ} {a : NightAnswer} → Refuses t size xs os v → v ≢ 0 → a ≡ no_night v t.numbers → Nighted t k size xs os store t a os store
  night-refused (by_nine b) z e = promise.record_out_of_range b (record { tuner = refl; answer = e; outs = refl; rows = refl })
  night-refused (by_three g s) z e = promise.size_out_of_range g s (record { tuner = refl; answer = e; outs = refl; rows = refl })
  night-refused (by_four g s m r) z e = promise.output_short g s m r (record { tuner = refl; answer = e; outs = refl; rows = refl })
  night-refused (begins g s m r) z e = absurd (z refl)

-- or begun
pub night-begins : {t : Tuner} {size : ℕ} {xs : List ℤ} {os : List (List ℤ)} {v : ℕ} → Refuses t size xs os v → v ≡ 0 → Good t × (0 < size) × (size ≤ longest_block) × Roomy (length xs) (kept_outs t) os
night-begins (by_nine b) e = absurd (omega arith)
night-begins (by_three g s) e = absurd (omega arith)
night-begins (by_four g s m r) e = absurd (omega arith)
night-begins (begins g s m r) e = (g, s, m, r)
