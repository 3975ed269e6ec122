-- Laws of the outputs: the least room is the room of each that is asked for, and what is written is written one by one.
use Rattle.std.specs.Prelude.{◌≡◌, List, [], ◌∷◌, ◌++◌, ℤ, pos, ◌-ℤ◌, length, take, drop}
use Rattle.std.proofs.Math.Path.{refl}
use Rattle.std.proofs.Common.{sym, ap, subst, ◌∙◌, arith, length-append, length-drop, take-take, drop-drop}
use Prim.Native.Nat.{ℕ, zero, suc, ◌+◌, ◌-◌, ◌*◌, ◌≤◌, ◌<◌}
use Rattle.std.proofs.lemmas.List.{length-replicate}
use Rattle.rules.specs.Rules.{longest_block, input_at}
use Rattle.reading.specs.declared.Growth.{Growth}
use Rattle.reading.specs.Gliding.{head_outs, Glided, outs-length}
use Rattle.voices.specs.Singing.{Sang}
use Rattle.singers.specs.Singers.{room_with, least_room}
use Rattle.tuner.specs.declared.Tuner.{Tuner}
use Rattle.tuner.specs.Tuners.{parts, kept_outs, Roomy, written}
use Rattle.tuner.specs.Following.{no_out, four, LeastRoom, written_by}

module _ (a b c d kept : List ℤ) (n : ℕ) where
  fits-four : (chosen : ℕ) → chosen ≤ 3 → n ≤ least_room chosen (length a) (length b) (length c) (length d) → Roomy n (parts (1 + chosen) kept) (four a b c d)
  unfolding Roomy parts room_with
  fits-four zero h p = (p, tt)
  fits-four (suc zero) h p = (omega (arith, p), (omega (arith, p), tt))
  fits-four (suc (suc zero)) h p = (omega (arith, p), (omega (arith, p), (omega (arith, p), tt)))
  fits-four (suc (suc (suc zero))) h p = (omega (arith, p), (omega (arith, p), (omega (arith, p), (omega (arith, p), tt))))
  fits-four (suc (suc (suc (suc m)))) h p = absurd (omega arith)

  least-four : (chosen : ℕ) → chosen ≤ 3 → Roomy n (parts (1 + chosen) kept) (four a b c d) → n ≤ least_room chosen (length a) (length b) (length c) (length d)
  unfolding Roomy parts room_with
  least-four zero h r = r.0
  least-four (suc zero) h r = omega (arith, r.0, r.1.0)
  least-four (suc (suc zero)) h r = omega (arith, r.0, r.1.0, r.1.1.0)
  least-four (suc (suc (suc zero))) h r = omega (arith, r.0, r.1.0, r.1.1.0, r.1.1.1.0)
  least-four (suc (suc (suc (suc m)))) h r = absurd (omega arith)

  -- what has room there has it in each output that is asked for
  pub each_fits : (chosen : ℕ) → chosen ≤ 3 → Roomy n (parts (1 + chosen) kept) (four a b c d) → (n ≤ length a) × (0 < chosen → n ≤ length b) × (1 < chosen → n ≤ length c) × (2 < chosen → n ≤ length d)
  unfolding Roomy parts
  each_fits zero h r = (r.0, λ l. absurd (omega arith), λ l. absurd (omega arith), λ l. absurd (omega arith))
  each_fits (suc zero) h r = (r.0, λ l. r.1.0, λ l. absurd (omega arith), λ l. absurd (omega arith))
  each_fits (suc (suc zero)) h r = (r.0, λ l. r.1.0, λ l. r.1.1.0, λ l. absurd (omega arith))
  each_fits (suc (suc (suc zero))) h r = (r.0, λ l. r.1.0, λ l. r.1.1.0, λ l. r.1.1.1.0)
  each_fits (suc (suc (suc (suc m)))) h r = absurd (omega arith)

  -- written one by one
  module _ (few : n ≤ longest_block) where
    part-one : (j : ℕ) (rest : List ℤ) → rest ≡ drop (longest_block * (1 + j)) kept → (ys : List ℤ) → take n (drop (longest_block * (1 + j)) kept) ++ drop n ys ≡ take n (take longest_block rest) ++ drop n ys
    part-one j rest e ys = ap (λ (l : List ℤ). l ++ drop n ys) (ap (take n) (sym e) ∙ sym (take-take n longest_block rest few))

    lead-one : take n kept ++ drop n a ≡ take n (take longest_block kept) ++ drop n a
    lead-one = ap (λ (l : List ℤ). l ++ drop n a) (sym (take-take n longest_block kept few))

    two : drop longest_block (drop longest_block kept) ≡ drop (longest_block * 2) kept
    two = drop-drop longest_block longest_block kept

    three : drop longest_block (drop longest_block (drop longest_block kept)) ≡ drop (longest_block * 3) kept
    three = ap (drop longest_block) two ∙ drop-drop longest_block (longest_block * 2) kept

    pub written-four : (chosen : ℕ) → chosen ≤ 3 → four (take n kept ++ drop n a) (written_by 0 chosen n kept b) (written_by 1 chosen n kept c) (written_by 2 chosen n kept d) ≡ written n (parts (1 + chosen) kept) (four a b c d)
    unfolding written parts written_by
    written-four zero h = λ i. four (lead-one i) b c d
    written-four (suc zero) h = λ i. four (lead-one i) (part-one 0 (drop longest_block kept) refl b i) c d
    written-four (suc (suc zero)) h = λ i. four (lead-one i) (part-one 0 (drop longest_block kept) refl b i) (part-one 1 _ two c i) d
    written-four (suc (suc (suc zero))) h = λ i. four (lead-one i) (part-one 0 (drop longest_block kept) refl b i) (part-one 1 _ two c i) (part-one 2 _ three d i)
    written-four (suc (suc (suc (suc m)))) h = absurd (omega arith)

-- the room does not hang on what is kept
pub roomy_same : (n m : ℕ) (a b : List ℤ) (os : List (List ℤ)) → Roomy n (parts m a) os → Roomy n (parts m b) os
unfolding Roomy parts
roomy_same n zero a b os r = tt
roomy_same n (suc m) a b [] r = r
roomy_same n (suc m) a b (o ∷ os) r = (r.0, roomy_same n m (drop longest_block a) (drop longest_block b) os r.1)

-- nor does it where another tuner has as many voices
pub room_after : (t : Tuner) (outs : List ℤ) (os : List (List ℤ)) (n chosen long : ℕ) → long ≡ n → chosen ≡ t.numbers.chosen → Roomy n (kept_outs t) os → Roomy long (parts (1 + chosen) outs) os
room_after t outs os n chosen long e f r =
    subst (λ (m : ℕ). Roomy m (parts (1 + chosen) outs) os) (sym e) (subst (λ (m : ℕ). Roomy n (parts (1 + m) outs) os) (sym f) (roomy_same n (1 + t.numbers.chosen) t.outs outs os r))

-- a voice's part of what is kept
pub voice_part : (kept : List ℤ) (j n : ℕ) → j < 3 → n ≤ 512 → take n (take (2048 - 512 * (j + 1)) (drop (512 * (j + 1)) kept)) ≡ take n (drop (512 * (1 + j)) kept)
voice_part kept j n h l =
    let here : 512 * (j + 1) ≡ 512 * (1 + j) = omega arith in
    take-take n (2048 - 512 * (j + 1)) (drop (512 * (j + 1)) kept) (omega arith) ∙ ap (λ (m : ℕ). take n (drop m kept)) here

pub least-room : (t : Tuner) (a b c d : List ℤ) → t.numbers.chosen ≤ 3 → LeastRoom t (four a b c d) (least_room t.numbers.chosen (length a) (length b) (length c) (length d))
least-room t a b c d h = record { fits = λ n. fits-four a b c d t.outs n t.numbers.chosen h; least = λ n. least-four a b c d t.outs n t.numbers.chosen h }

-- ---- places that are 0 before they are written

pub glided-clear : {behind : ℕ} {rates periods : List ℕ} {s : List ℤ} {m b : ℕ} {zeros out : List ℤ} {r : Growth} → zeros ≡ no_out → Glided behind rates periods s m b zeros out r → Glided behind rates periods s m b no_out out r
glided-clear {behind} {rates} {periods} {s} {m} {b} {zeros} {out} {r} e g = subst (λ (z : List ℤ). Glided behind rates periods s m b z out r) e g

pub sang-clear : {hertz interval behind : ℕ} {periods notes : List ℕ} {s : List ℤ} {m b : ℕ} {zeros out : List ℤ} {r : ℕ} → zeros ≡ no_out → Sang hertz interval behind periods notes s m b zeros out r → Sang hertz interval behind periods notes s m b no_out out r
sang-clear {hertz} {interval} {behind} {periods} {notes} {s} {m} {b} {zeros} {out} {r} e g = subst (λ (z : List ℤ). Sang hertz interval behind periods notes s m b z out r) e g

-- what is read, and the rest of the 512 places
pub glided-long : {behind : ℕ} {rates periods : List ℕ} {s : List ℤ} {m b : ℕ} {out : List ℤ} {r : Growth} → b ≤ 512 → Glided behind rates periods s m b no_out out r → length out ≡ 512
glided-long {behind} {rates} {periods} {s} {m} {b} h g =
    ap length (g.out 0)
    ∙ length-append (head_outs 0 (input_at 0 -ℤ pos behind) rates periods s m b) (drop b no_out)
    ∙ omega (arith, outs-length 0 (input_at 0 -ℤ pos behind) rates periods s m b, length-drop b no_out, length-replicate 512 (pos 0))
