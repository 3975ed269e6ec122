-- The newest samples of a sound: they sound as it does as far back as they go, and what is kept of what was kept and what came is the newest of all that was heard.
use Rattle.std.specs.Prelude.{◌≡◌, refl, List, ◌++◌, ℕ, ◌+◌, ◌-◌, ◌*◌, ◌≤◌, ℤ, pos, length, replicate}
use Rattle.std.proofs.Common.{sym, ap, ◌∙◌, arith}
use Rattle.std.proofs.lemmas.List.{length-replicate, get_or-replicate}
use Rattle.whole.specs.Lists.{length-list_of, get_or-list_of, is-list_of}
use Rattle.rules.specs.Rules.{Sound, silence, heard_all, Mode, searching, tracking, Pitch, kept_samples}
use Rattle.rules.specs.Facts.{ModeIn, PitchIn, value_at, Right, energies_of, correlations_of, keeping}
use Rattle.rules.proofs.Hearing.{heard_all-append}
use Rattle.rules.specs.Local.{SameNewest}
use Rattle.pitch.specs.Pitches.{tracking_of, tracker_of, kept_of}
use Rattle.pitch.specs.Keeping.{right-energies, right-correlations, listed-right}
use Rattle.record.specs.Records.{sound_of}
use Rattle.account.specs.Cutting.{newest}
use Rattle.record.specs.Kept.{keeping-length, sound-at, kept_age, right-alike}

pub newest-length : (n : ℕ) (x : Sound) → length (newest n x) ≡ n
newest-length n x = length-list_of (λ (k : ℕ). x (n - 1 - k)) n

pub newest-sound : (n : ℕ) (x : Sound) → SameNewest n (sound_of (newest n x)) x
newest-sound n x k h =
    let long = newest-length n x in
    let at : length (newest n x) - 1 - k ≡ n - 1 - k = omega arith in
    let back : n - 1 - (n - 1 - k) ≡ k = omega arith in
    sound-at (newest n x) k (omega arith) ∙ ap (value_at (newest n x)) at ∙ get_or-list_of (λ (k : ℕ). x (n - 1 - k)) n (n - 1 - k) (pos 0) (omega arith) ∙ ap x back

-- a list that sounds as it does is they
is-newest : {n : ℕ} {x : Sound} (l : List ℤ) → length l ≡ n → SameNewest n x (sound_of l) → l ≡ newest n x
is-newest {n} {x} l e same =
    is-list_of (λ (k : ℕ). x (n - 1 - k)) n (pos 0) l e
    (λ k h.
    let at : length l - 1 - (n - 1 - k) ≡ k = omega arith in
    sym (same (n - 1 - k) (omega arith) ∙ sound-at l (n - 1 - k) (omega arith) ∙ ap (value_at l) at))

pub keeping-newest : {n : ℕ} {x : Sound} (kept new : List ℤ) → length kept ≡ n → SameNewest n x (heard_all (sound_of kept) new) → keeping kept new ≡ newest n x
keeping-newest kept new e same =
    is-newest (keeping kept new) (keeping-length kept new ∙ e)
    (λ k h.
    same k h ∙ ap (λ (x : Sound). x k) (sym (heard_all-append silence kept new)) ∙ sym (kept_age (length new) (kept ++ new) k (omega (arith, keeping-length kept new))))

-- sums over them are sums over the sound, for lags that reach no further
pub newest-right : {n : ℕ} (x : Sound) (low m : ℕ) → 2 * (low + m) ≤ n → Right x low m (energies_of (sound_of (newest n x)) low m) (correlations_of (sound_of (newest n x)) low m)
newest-right {n} x low m few = right-alike (λ k h. newest-sound n x k (omega arith)) (listed-right (sound_of (newest n x)) low m)

pub zeros_newest : (n : ℕ) → replicate n (pos 0) ≡ newest n silence
unfolding silence
zeros_newest n = is-list_of (λ (k : ℕ). pos 0) n (pos 0) (replicate n (pos 0)) (length-replicate n (pos 0)) (λ k h. get_or-replicate n k (pos 0) (pos 0) h)

-- what is kept of a pitch, over the newest samples: the eight lags reach no further
pub kept-newest : (p : Pitch) (x : Sound) → PitchIn p → kept_of p (sound_of (newest kept_samples x)) ≡ kept_of p x
unfolding tracking_of tracker_of
kept-newest p x i = λ j. record { tracking = tracking_of p.mode; tone = p.tone; tracker = lags p.mode i.lags j }
  where
    lags : (m : Mode) → ModeIn m → tracker_of m (sound_of (newest kept_samples x)) ≡ tracker_of m x
    lags searching l = refl
    lags (tracking low last) l =
        let right = newest-right {n = kept_samples} x low 8 (omega (arith, l.upto)) in
        λ j. record { low = low; last = last; e = right-energies right j; h = right-correlations right j }
