-- What is left stands at the front: all of it, or its first 8,193 bytes.
use Rattle.std.proofs.Common.{◌≡◌, ◌+◌, ◌-◌, ◌<◌, ◌≤◌, ℕ, List, min, take, drop, length, sym, ap, ◌∙◌, arith, take_all, length-take, length-take-le, length-drop}
use Rattle.std.proofs.Math.Decide.{dec_lt}
use Rattle.std.proofs.lemmas.List.{take-take, drop-take}
use Rattle.std.proofs.lemmas.List.Edits.{take-paste}
use lib.Seq.{paste}
use Rattle.lines.specs.Serving.{held_of}
use Rattle.daxfolin.specs.Turns.{Kept}
use Rattle.daxfolin.proofs.keep.Goals as goal

module _ (buf : List ℕ) (from to n : ℕ) (h : from ≤ to) (l : to ≤ length buf) (e : n ≡ min (to - from) 8193) where
  held_is : held_of (drop from (take to buf)) ≡ take n (drop from buf)
  held_is = ap (λ k. take 8193 (drop from (take k buf))) all ∙ ap (take 8193) (drop-take from (to - from) buf) ∙ by_length (dec_lt (to - from) 8193)
    where
      all : to ≡ from + (to - from)
      all = omega arith

      by_length : Dec (to - from < 8193) → take 8193 (take (to - from) (drop from buf)) ≡ take n (drop from buf)
      by_length (yes k) = let same : to - from ≡ n = omega arith in take_all 8193 (take (to - from) (drop from buf)) (omega (arith, length-take (to - from) (drop from buf))) ∙ ap (λ k. take k (drop from buf)) same
      by_length (no k) = let same : 8193 ≡ n = omega arith in take-take 8193 (to - from) (drop from buf) (omega arith) ∙ ap (λ k. take k (drop from buf)) same

  kept : {buf' : List ℕ} → buf' ≡ paste buf 0 (drop from buf) (from + n - from) → Kept buf from to n buf'
  kept p =
      let same : from + n - from ≡ n = omega arith in
      let front : 0 + n ≡ n = omega arith in
      record {
        many = sym (ap length held_is ∙ length-take-le n (drop from buf) (omega (arith, length-drop from buf)));
        bytes = ap (take n) (p ∙ ap (paste buf 0 (drop from buf)) same) ∙ ap (λ k. take k (paste buf 0 (drop from buf) n)) (sym front) ∙ take-paste buf 0 (drop from buf) n (omega arith) (omega (arith, length-drop from buf)) ∙ sym held_is;
      }

pub returns : goal.returns
returns c = kept c.args.buf.now c.args.from c.args.to _ c.requires.0 c.requires.1 (omega arith) c.copy_within.ensures.after
