-- Laws of a seek: what is wanted by each test, and what a piece adds by how many bytes it has.
use Rattle.std.specs.Prelude.{◌≡◌, true, false, not, cond, ◌||◌, List, ℕ, ◌+◌, ◌/◌, ◌^◌, ◌<◌, min, leb, ltb, eqb, length, Some}
use Rattle.std.proofs.Common.{◌∙◌, ap, eq-eqb, ne_eqb}
use Rattle.std.proofs.lemmas.Bool.{lt-leb}
use Rattle.whole.specs.Tests.{cond_yes, cond_no}
use Rattle.riff.specs.declared.Chunk.{Chunk}
use Rattle.riff.specs.declared.Walk.{Walk}
use Rattle.riff.specs.Riff.{number_at, body, data_name}
use Rattle.riff.specs.Walks.{set_out, stepped}
use Rattle.wave.specs.Waves.{is_wave}
use Rattle.wave.specs.Judged.{judged}
use Rattle.mending.specs.Mendings.{no_mending}
use Rattle.mending.specs.Decided.{reached, decided}
use Rattle.seeking.specs.declared.Seek.{Seek}
use Rattle.seeking.specs.Seeks.{chunk_in, rate_in, walk_of, fresh, no_piece, end_of, asks_fmt, asks, walked_on, begun, headed, stepped_on, rated, given_to, judged_rate, number_of, no_take, take_in, found_in, mended_in}

-- ---- what a walk asks for
module _ (w : Walk) (end : ℕ) where
  pub asks_chunk : leb (w.at + 8) end ≡ true → asks w end ≡ record { at = w.at; count = 8 }
  unfolding asks
  asks_chunk e = rw e

  pub asks_last : leb (w.at + 8) end ≡ false → asks w end ≡ asks_fmt w.fmt end
  unfolding asks
  asks_last e = rw e

-- ---- the walk's end
module _ (n mends riff : ℕ) where
  pub end_take : mends ≡ 0 → end_of n mends riff ≡ min (8 + riff) n
  unfolding end_of
  end_take e = cond_yes _ _ (eq-eqb mends 0 e)

  module _ (m : mends ≡ 0 → ⊥) where
    pub end_mending : n < 2147483648 → end_of n mends riff ≡ n
    unfolding end_of
    end_mending h = cond_no _ _ (ne_eqb mends 0 m) ∙ cond_no _ _ (lt-leb 2147483648 n h)

-- ---- the first piece
module _ (n mends : ℕ) where
  pub begun-none : ltb n 12 || leb (2 ^ 63) n ≡ true → begun n mends ≡ fresh n mends no_piece
  unfolding begun
  begun-none e = rw e

  pub begun-some : ltb n 12 || leb (2 ^ 63) n ≡ false → begun n mends ≡ fresh n mends (record { at = 0; count = 12 })
  unfolding begun
  begun-some e = rw e

-- ---- what a piece adds
module _ (s : Seek) (bytes : List ℕ) where
  pub headed-none : is_wave bytes ≡ false → headed s bytes ≡ fresh s.length s.mends no_piece
  unfolding headed
  headed-none e = cond_no _ _ e

  pub headed-wave : is_wave bytes ≡ true → headed s bytes ≡ walked_on (record (fresh s.length s.mends no_piece) { riff = number_at bytes 4 4 }) set_out
  unfolding headed
  headed-wave e = cond_yes _ _ e

  pub stepped-on : leb (2 ^ 63) s.length || not (leb (s.wanted.at + 8) (end_of s.length s.mends s.riff)) ≡ false →
      stepped_on s bytes ≡ walked_on s (stepped (end_of s.length s.mends s.riff) (walk_of s) (record { at = s.wanted.at; name = number_at bytes 0 4; size = number_at bytes 4 4 }))
  unfolding stepped_on
  stepped-on e = cond_no _ _ e

  module _ (e : length bytes ≡ s.wanted.count) where
    pub given-head : length bytes ≡ 12 → given_to s bytes ≡ headed s bytes
    unfolding given_to
    given-head h = cond_yes _ _ (eq-eqb (length bytes) s.wanted.count e) ∙ cond_yes _ _ (eq-eqb (length bytes) 12 h)

    module _ (a : length bytes ≡ 12 → ⊥) where
      past_head : given_to s bytes ≡ cond (eqb (length bytes) 8) (stepped_on s bytes) (cond (eqb (length bytes) 16) (rated s bytes) s)
      unfolding given_to
      past_head = cond_yes _ _ (eq-eqb (length bytes) s.wanted.count e) ∙ cond_no _ _ (ne_eqb (length bytes) 12 a)

      pub given_chunk : length bytes ≡ 8 → given_to s bytes ≡ stepped_on s bytes
      given_chunk h = past_head ∙ cond_yes _ _ (eq-eqb (length bytes) 8 h)

      module _ (b : length bytes ≡ 8 → ⊥) where
        pub given-fmt : length bytes ≡ 16 → given_to s bytes ≡ rated s bytes
        given-fmt h = past_head ∙ cond_no _ _ (ne_eqb (length bytes) 8 b) ∙ cond_yes _ _ (eq-eqb (length bytes) 16 h)

        pub given-none : (length bytes ≡ 16 → ⊥) → given_to s bytes ≡ s
        given-none h = past_head ∙ cond_no _ _ (ne_eqb (length bytes) 8 b) ∙ cond_no _ _ (ne_eqb (length bytes) 16 h)

-- ---- what it comes to
module _ (s : Seek) where
  pub number-kept : (s.number ≡ 0 → ⊥) → number_of s ≡ s.number
  unfolding number_of
  number-kept n = cond_no _ _ (ne_eqb s.number 0 n)

  pub number-judged : s.number ≡ 0 → number_of s ≡ judged (walk_of s) (judged_rate s) (8 + s.riff) s.length
  unfolding number_of
  number-judged e = cond_yes _ _ (eq-eqb s.number 0 e)

  pub found-refused : (number_of s ≡ 0 → ⊥) → found_in s ≡ no_take (number_of s)
  unfolding found_in
  found-refused n = cond_no _ _ (ne_eqb (number_of s) 0 n)

  pub found_take : {c : Chunk} → number_of s ≡ 0 → chunk_in data_name s.data ≡ Some c → reached (Some c) s.length ≡ true → found_in s ≡ record { number = 0; hertz = s.hertz; at = body c; count = c.size / 2 }
  unfolding found_in
  found_take {c} e d r = cond_yes _ _ (eq-eqb (number_of s) 0 e) ∙ ap (take_in s) d ∙ cond_yes _ _ r

  pub mended-refused : (s.number ≡ 0 → ⊥) → mended_in s ≡ no_mending s.number
  unfolding mended_in
  mended-refused n = cond_no _ _ (ne_eqb s.number 0 n)

  pub mended-decided : s.number ≡ 0 → mended_in s ≡ decided (walk_of s) (rate_in s.hertz) s.riff s.length
  unfolding mended_in
  mended-decided e = cond_yes _ _ (eq-eqb s.number 0 e)
