-- What a walk has seen so far, step by step, and that in the end it has seen all chunks.
use Rattle.std.specs.Prelude.{◌≡◌, Bool, ◌||◌, ltb, eqb, Option, Some}
use Rattle.std.proofs.Math.Path.{refl}
use Rattle.std.proofs.Common.{sym, ap, ◌∙◌, subst, arith, le-leb}
use Rattle.std.proofs.Math.Bool.{true, false, cond, or_assoc, or-false}
use mathlib.Core.List.{List, [], ◌∷◌, ◌++◌, append-nil}
use Prim.Native.Nat.{ℕ, zero, suc, ◌+◌, ◌*◌, ◌≤◌, ◌<◌}
use Rattle.std.proofs.lemmas.Bool.{lt-leb}
use Rattle.std.proofs.Math.Seq.{append_snoc}
use Rattle.riff.specs.Chunks.{first-before}
use Rattle.riff.specs.declared.Walk.{Walk}
use Rattle.riff.specs.declared.Chunk.{Chunk}
use Rattle.riff.specs.Riff.{chunk_at, behind, next, chunks_from, chunks, first_of, any_past, fmt_name, data_name}
use Rattle.riff.specs.Walks.{found_first, set_out, stepped}

-- a walk to an end has seen these chunks
pub record Seen (end : ℕ) (cs : List Chunk) (w : Walk) : Type 0 where
  pub fmt : w.fmt ≡ first_of fmt_name cs
  pub data' : w.data ≡ first_of data_name cs
  pub past : w.past ≡ any_past end cs

-- ---- one chunk more
module _ (name : ℕ) (c : Chunk) where
  pub found-more : (cs : List Chunk) → first_of name (cs ++ (c ∷ [])) ≡ found_first (first_of name cs) name c
  unfolding first_of
  found-more [] = refl
  found-more (d ∷ cs) = by_name (eqb d.name name) (found-more cs)
    where
      by_name : (t : Bool) → first_of name (cs ++ (c ∷ [])) ≡ found_first (first_of name cs) name c →
          cond t (Some d) (first_of name (cs ++ (c ∷ []))) ≡ found_first (cond t (Some d) (first_of name cs)) name c
      by_name true e = refl
      by_name false e = e

pub past_more : (end : ℕ) (c : Chunk) (cs : List Chunk) → any_past end (cs ++ (c ∷ [])) ≡ any_past end cs || ltb end (behind c)
unfolding any_past
past_more end c [] = or-false (ltb end (behind c))
past_more end c (d ∷ cs) = ap (λ (t : Bool). ltb end (behind d) || t) (past_more end c cs) ∙ sym (or_assoc (ltb end (behind d)) (any_past end cs) (ltb end (behind c)))

-- a walk that sets out has seen none, and one that keeps what it found first has seen the chunk as well
pub seen_none : (end : ℕ) → Seen end [] set_out
unfolding first_of any_past
seen_none end = record { fmt = refl; data' = refl; past = refl }

pub seen_more : {end : ℕ} {w : Walk} (c : Chunk) (cs : List Chunk) → Seen end cs w → Seen end (cs ++ (c ∷ [])) (stepped end w c)
seen_more {end} c cs s =
    record {
      fmt = ap (λ (k : Option Chunk). found_first k fmt_name c) s.fmt ∙ sym (found-more fmt_name c cs);
      data' = ap (λ (k : Option Chunk). found_first k data_name c) s.data' ∙ sym (found-more data_name c cs);
      past = ap (λ (t : Bool). t || ltb end (behind c)) s.past ∙ sym (past_more end c cs);
    }

-- ---- the walk over bytes in memory
module _ (file : List ℕ) (end : ℕ) where
  pub chunks-end : (n at : ℕ) → end < at + 8 → chunks_from n file end at ≡ []
  unfolding chunks_from
  chunks-end zero at h = refl
  chunks-end (suc n) at h = rw (lt-leb (at + 8) end h)

  pub chunks-more : (n at : ℕ) → at + 8 ≤ end → chunks_from (suc n) file end at ≡ chunk_at file at ∷ chunks_from n file end (next (chunk_at file at))
  unfolding chunks_from
  chunks-more n at h = rw (le-leb (at + 8) end h)

-- a walk stands at a place, and has seen the chunks before it; n are enough for those that are still to come
pub record Walking (file : List ℕ) (end : ℕ) (w : Walk) : Type 0 where
  pub cs : List Chunk
  pub n : ℕ
  pub seen : Seen end cs w
  pub rest : chunks file end ≡ cs ++ chunks_from n file end w.at
  pub enough : end < w.at + 8 + 8 * n

module _ {file : List ℕ} {end : ℕ} where
  pub walk_begins : {w : Walk} → w ≡ set_out → Walking file end w
  walk_begins e = subst (Walking file end) (sym e) (record { cs = []; n = end; seen = seen_none end; rest = refl; enough = omega arith })

  pub walk_goes_on : {w : Walk} → Walking file end w → w.at + 8 ≤ end → Walking file end (stepped end w (chunk_at file w.at))
  walk_goes_on {w} p h = by_count p.n p.rest p.enough
    where
      by_count : (n : ℕ) → chunks file end ≡ p.cs ++ chunks_from n file end w.at → end < w.at + 8 + 8 * n → Walking file end (stepped end w (chunk_at file w.at))
      by_count zero e l = absurd (omega arith)
      by_count (suc n) e l =
          let c = chunk_at file w.at in
          record {
            cs = p.cs ++ (c ∷ []);
            n = n;
            seen = seen_more c p.cs p.seen;
            rest = e ∙ ap (λ (l : List Chunk). p.cs ++ l) (chunks-more file end n w.at h) ∙ sym (append_snoc p.cs c (chunks_from n file end (next c)));
            enough = omega arith;
          }

  pub walk_ends : {w : Walk} → Walking file end w → end < w.at + 8 → Seen end (chunks file end) w
  walk_ends {w} p h =
      subst (λ (l : List Chunk). Seen end l w)
      (sym (p.rest ∙ ap (λ (l : List Chunk). p.cs ++ l) (chunks-end file end p.n w.at h) ∙ append-nil p.cs))
      p.seen

-- what was found stands before the end
pub seen-near : (file : List ℕ) (name : ℕ) {end : ℕ} {found : Option Chunk} {c : Chunk} → found ≡ first_of name (chunks file end) → found ≡ Some c → c.at + 8 ≤ end
seen-near file name {end} {found} {c} s e = (first-before file end name end 12 c (sym s ∙ e)).to
