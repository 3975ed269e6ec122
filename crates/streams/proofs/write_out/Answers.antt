-- What a write takes follows what was written before.
use Rattle.std.proofs.Common.{◌≡◌, ◌+◌, List, ℕ, Bor, Option, ap, ◌∙◌, subst, take, drop}
use Rattle.std.proofs.lemmas.List.{take_rest, drop-drop}
use Rattle.std.proofs.Math.Seq.{take-add}
use Rattle.std.specs.Io.KnownBytes.{Appends}
use Rattle.std.proofs.KnownBytes.{Appends-trans, Appends-kept}
use Rattle.streams.proofs.write_out.Goals as goal
use Rattle.streams.proofs.write_out.Goals.{in-Ok, in-Err+in_ok-retry-in-Err}

written_more : (a b c : Option (List ℕ)) (n k : ℕ) (bytes rest : List ℕ) → rest ≡ drop n bytes → Appends a b (take n bytes) → Appends b c (take k rest) → Appends a c (take (n + k) bytes)
written_more a b c n k bytes rest e p q = rw take-add (Appends-trans a b c (take n bytes) (take k (drop n bytes)) p (subst (λ l. Appends b c (take k l)) e q))

pub loop-preserved : goal.loop-preserved
loop-preserved g c =
    let (n, left, written) = c.loop.invariant in
    elim c.match-write.branch [
      | in-Ok w ↦
          let k = w.in-Ok.n in (
            n + k,
            ap (λ (r : Bor (List ℕ)). r.now) w.rest-is ∙ take_rest c.loop.rest.now k ∙ ap (drop k) left ∙ drop-drop k n c.args.bytes.now,
            written_more _ _ _ n k _ _ left written w.in-Ok.ensures.bytes,
          )
      | in-Err+in_ok-retry-in-Err w ↦ (n, ap (λ (r : Bor (List ℕ)). r.now) w.rest-is ∙ left, Appends-kept _ _ _ _ written w.in-Err.ensures.bytes)
    ]
