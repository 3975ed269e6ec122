-- `writing::write_take` meets its contract: the samples behind the header.
use Rattle.std.proofs.Common.{◌≡◌, ◌-◌, ◌*◌, ◌++◌, List, ℕ, length, drop, take, ap, ◌∙◌, arith, length-take-le, length-drop, append-nil}
use Rattle.std.proofs.lemmas.List.{drop_all}
use Rattle.riff.specs.Stores.{stored-part, stored-length}
use Rattle.writing.specs.Canonical.{sample_bytes, header}
use Rattle.writing.specs.Bits.{length-sample_bytes}
use Rattle.writing.specs.Writing.{take_written}
use Rattle.writing.proofs.write_take.Goals as goal

pub returns : goal.returns
returns c =
    let e = c.in_ok-length.ensures in
    let xs = c.args.xs.now in
    let n = c.in_ok-length.length - 44 in
    let front = c.begin.new.out in
    let part = take n (drop 44 front) in
    let long = stored-length c.args.out.now 0 (header c.args.hertz (2 * length xs)) e.3 in
    let l : length part ≡ 2 * length xs = length-take-le n (drop 44 front) (omega (arith, length-drop 44 front, long, e.1, e.2)) ∙ omega (arith, e.1) in
    let moved = c.put_samples.ensures ∙ ap (λ (d : List ℕ). sample_bytes xs ++ d) (drop_all (length (sample_bytes xs)) part (omega (arith, l, length-sample_bytes xs))) ∙ append-nil (sample_bytes xs) in
    take_written e.0 e.1 e.3 (stored-part front 44 n (sample_bytes xs) moved (length-sample_bytes xs ∙ omega (arith, e.1)) (omega (arith, long, e.1, e.2)))
