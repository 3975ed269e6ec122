-- Laws of the voices of a record: there are three places for them, and one that sings beside a block leaves the others and their outputs as they are.
use Rattle.std.specs.Prelude.{◌≡◌, refl, ℕ, zero, suc, ◌+◌, ◌*◌, ◌≤◌, ◌<◌, ℤ, pos, ◌-ℤ◌, length, take, drop, set}
use Rattle.std.proofs.Common.{sym, ap, subst, ◌∙◌, add-one, arith, length-append, length-drop, drop-drop, drop_at, take_at, length-take-le, get_or-set_other}
use mathlib.Core.List.{List, [], ◌∷◌, ◌++◌, map, flatten, append-nil, append_assoc}
use Rattle.std.proofs.lemmas.List.{length-replicate}
use Rattle.rules.specs.Rules.{longest_block, input_at}
use Rattle.voices.specs.Singing.{sing_outs}
use Rattle.tuner.specs.declared.Voice.{Voice}
use Rattle.tuner.specs.Tuners.{voice_at}
use Rattle.tuner.specs.Following.{no_out, SangBeside, SungTo, AllSung}

pub three : (f : Voice → Voice) (vs : List Voice) → length vs ≡ 3 → map f vs ≡ f (voice_at vs 0) ∷ f (voice_at vs 1) ∷ f (voice_at vs 2) ∷ []
three f [] e = absurd (omega arith)
three f (a ∷ []) e = absurd (omega arith)
three f (a ∷ b ∷ []) e = absurd (omega arith)
three f (a ∷ b ∷ c ∷ []) e = refl
three f (a ∷ b ∷ c ∷ d ∷ vs) e = absurd (omega arith)

-- ---- one voice more

-- voice j is another: behind those before it
one_set : (go : Voice → Voice) (vs : List Voice) (j : ℕ) → j < length vs → set (map go (take j vs) ++ drop j vs) j (go (voice_at vs j)) ≡ map go (take (suc j) vs) ++ drop (suc j) vs
one_set go [] j h = absurd (omega arith)
one_set go (v ∷ vs) zero h = refl
one_set go (v ∷ vs) (suc j) h = ap (λ (l : List Voice). go v ∷ l) (one_set go vs j (omega arith))

-- those behind are as they were
pub rest_more : (vs vs₁ : List Voice) (v' : Voice) (j : ℕ) → ((k : ℕ) → j ≤ k → voice_at vs₁ k ≡ voice_at vs k) → (k : ℕ) → j + 1 ≤ k → voice_at (set vs₁ j v') k ≡ voice_at vs k
rest_more vs vs₁ v' j p k h = get_or-set_other vs₁ j k v' (record { interval = 0; behind = 0 }) (λ e. absurd (omega (arith, e))) ∙ p k (omega arith)

one_out : (out : Voice → List ℤ) (vs : List Voice) (j : ℕ) → j < length vs → flatten (map out (take (suc j) vs)) ≡ flatten (map out (take j vs)) ++ out (voice_at vs j)
unfolding flatten
one_out out [] j h = absurd (omega arith)
one_out out (v ∷ vs) zero h = append-nil (out v)
one_out out (v ∷ vs) (suc j) h = ap (λ (l : List ℤ). out v ++ l) (one_out out vs j (omega arith)) ∙ sym (append_assoc (out v) (flatten (map out (take j vs))) (out (voice_at vs j)))

-- none sang yet
pub sung-none : (vs : List Voice) (outs : List ℤ) (go : Voice → Voice) (out : Voice → List ℤ) → SungTo 0 vs outs go out vs outs
unfolding flatten
sung-none vs outs go out = record { voices = refl; front = sym (append-nil (take longest_block outs)); behind = refl }

-- as many samples as were sung, and the rest of the 512 places
sing_length : (hertz interval n : ℕ) (at : ℤ) (periods notes : List ℕ) (s : List ℤ) (m i : ℕ) → length (sing_outs hertz interval n at periods notes s m i) ≡ i
unfolding sing_outs
sing_length hertz interval n at periods notes s m zero = refl
sing_length hertz interval n at periods notes s m (suc i) =
    length-append (sing_outs hertz interval n at periods notes s m i) _ ∙ ap (λ (k : ℕ). k + 1) (sing_length hertz interval n at periods notes s m i) ∙ add-one i

pub sang-long : {hertz : ℕ} {periods notes : List ℕ} {s : List ℤ} {b : ℕ} {v v' : Voice} {o : List ℤ} → b ≤ 512 → SangBeside hertz periods notes s b v v' o → length o ≡ 512
sang-long {hertz} {periods} {notes} {s} {b} {v} h p =
    ap length (p.sang.out 0)
    ∙ length-append (sing_outs hertz v.interval 0 (input_at 0 -ℤ pos v.behind) periods notes s 1764 b) (drop b no_out)
    ∙ omega (arith, sing_length hertz v.interval 0 (input_at 0 -ℤ pos v.behind) periods notes s 1764 b, length-drop b no_out, length-replicate 512 (pos 0))

module _ {hertz : ℕ} {periods notes : List ℕ} {s : List ℤ} {b chosen : ℕ} {vs : List Voice} {outs : List ℤ} where
  -- voice j sings into its places
  pub sung-more : (j : ℕ) {vs₁ : List Voice} (outs₁ : List ℤ) {v' : Voice} (o : List ℤ) (from k : ℕ) → from ≡ 512 * (1 + j) → k ≡ 512 → j < chosen → j < length vs → from + 512 ≤ length outs₁ → length o ≡ 512
      → AllSung hertz periods notes s b chosen j vs outs vs₁ outs₁ → SangBeside hertz periods notes s b (voice_at vs j) v' o
      → AllSung hertz periods notes s b chosen (j + 1) vs outs (set vs₁ j v') (take from outs₁ ++ (o ++ drop k (drop from outs₁)))
  sung-more j {vs₁} outs₁ {v'} o from k here wide h l long many p q go out g =
      let a = p go out g in
      let e = g.each j h v' o q in
      let front = take from outs₁ in
      let rest = drop k (drop from outs₁) in
      let m : length (front ++ o) ≡ 512 * (1 + suc j) = length-append front o ∙ omega (arith, length-take-le from outs₁ (omega arith), many, here) in
      let two : 512 * (1 + j) + 512 ≡ 512 * (1 + suc j) = omega arith in
      let joined = sym (append_assoc front o rest) in
      let whole : SungTo (suc j) vs outs go out (set vs₁ j v') (front ++ (o ++ rest)) =
      record {
        voices = (λ i. set (a.voices i) j (e.0 i)) ∙ one_set go vs j l;
        front =
            ap (take (512 * (1 + suc j))) joined
            ∙ take_at (front ++ o) rest (512 * (1 + suc j)) m
            ∙ (λ i. (ap (λ (n : ℕ). take n outs₁) here ∙ a.front) i ++ e.1 i)
            ∙ append_assoc (take 512 outs) (flatten (map out (take j vs))) (out (voice_at vs j))
            ∙ ap (λ (l : List ℤ). take 512 outs ++ l) (sym (one_out out vs j l));
        behind =
            ap (drop (512 * (1 + suc j))) joined
            ∙ drop_at (front ++ o) rest (512 * (1 + suc j)) m
            ∙ (λ i. drop (wide i) (drop (here i) outs₁))
            ∙ ap (drop 512) a.behind
            ∙ drop-drop 512 (512 * (1 + j)) outs
            ∙ ap (λ (n : ℕ). drop n outs) two;
      } in
      subst (λ (n : ℕ). SungTo n vs outs go out (set vs₁ j v') (front ++ (o ++ rest))) (sym (add-one j)) whole
