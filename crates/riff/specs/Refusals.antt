-- Laws of refusals: the number answered is that of the first test that holds, and 0 says that none does.
use Rattle.std.specs.Prelude.{◌≡◌, refl, Bool, true, false, ◌&&◌, List, [], ◌∷◌, ◌++◌, ℕ, suc, ◌<◌, ltb}
use Rattle.std.proofs.Common.{inl, inr, ⊎_elim, arith, ltb-true}
use Rattle.riff.specs.Riff.{refused_by, Applies, Least, none_applies, least}
use Rattle.whole.specs.Tests.{by, yes_and_no, and_left, and_right}

-- none holds
pub passed : (n : ℕ) (t : Bool) (tests : List (ℕ × Bool)) → refused_by ((suc n, t) ∷ tests) ≡ 0 → (t ≡ false) × (refused_by tests ≡ 0)
unfolding refused_by
passed n true tests e = absurd (omega arith)
passed n false tests e = (refl, e)

-- where the tests' numbers rise, the first that holds is the least that applies
abbrev pub rising : ℕ → List (ℕ × Bool) → Bool
rising m [] = true
rising m (test ∷ tests) = ltb m test.0 && rising test.0 tests

-- each lies above m
rising-above : (m : ℕ) (tests : List (ℕ × Bool)) → rising m tests ≡ true → (n : ℕ) → Applies n tests → m < n
rising-above m [] r n a = absurd a
rising-above m (test ∷ tests) r n (inl a) = omega (arith, a.0, ltb-true m test.0 (and_left (ltb m test.0) (rising test.0 tests) r))
rising-above m (test ∷ tests) r n (inr a) =
    omega (arith, ltb-true m test.0 (and_left (ltb m test.0) (rising test.0 tests) r), rising-above test.0 tests (and_right (ltb m test.0) (rising test.0 tests) r) n a)

-- a test that failed changes nothing
least-later : {k n : ℕ} {t : Bool} {tests : List (ℕ × Bool)} → t ≡ false → Least tests n → Least ((k, t) ∷ tests) n
least-later f (none_applies h) = none_applies (λ m a. ⊎_elim (λ e. absurd (yes_and_no e.1 f)) (h m) a)
least-later f (least a h) = least (inr a) (λ m b. ⊎_elim (λ e. absurd (yes_and_no e.1 f)) (h m) b)

pub refused-least : (m : ℕ) (tests : List (ℕ × Bool)) → rising m tests ≡ true → Least tests (refused_by tests)
unfolding refused_by
refused-least m [] r = none_applies (λ n a. a)
refused-least m (test ∷ tests) r =
    let s = and_right (ltb m test.0) (rising test.0 tests) r in
    by test.1
    (λ y. rw y (least (inl (refl, refl)) (λ n a. ⊎_elim (λ e. omega (arith, e.0)) (λ b. omega (arith, rising-above test.0 tests s n b)) a)))
    (λ y. rw y (least-later refl (refused-least test.0 tests s)))

-- further tests behind them count where none of them holds
pub refused-first : (ts us : List (ℕ × Bool)) → (refused_by ts ≡ 0 → ⊥) → refused_by (ts ++ us) ≡ refused_by ts
unfolding refused_by
refused-first [] us n = absurd (n refl)
refused-first (t ∷ ts) us n = by t.1 (λ y. rw y) (λ y. rw y (refused-first ts us (rw y at n)))

pub refused-next : (m : ℕ) (ts us : List (ℕ × Bool)) → rising m ts ≡ true → refused_by ts ≡ 0 → refused_by (ts ++ us) ≡ refused_by us
unfolding refused_by
refused-next m [] us r e = refl
refused-next m (t ∷ ts) us r e =
    by t.1
    (λ y. let z : t.0 ≡ 0 = rw y at e in absurd (omega (arith, z, ltb-true m t.0 (and_left (ltb m t.0) (rising t.0 ts) r))))
    (λ y. rw y (refused-next t.0 ts us (and_right (ltb m t.0) (rising t.0 ts) r) (rw y at e)))
