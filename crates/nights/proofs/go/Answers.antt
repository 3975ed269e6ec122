use Rattle.std.proofs.Common.{◌+◌, length, List, ℤ, sym, ap, subst, ◌∙◌, arith, length-append}
use Rattle.std.specs.Slice.Iter.{chunks_rest, chunks_size}
use Rattle.tuner.specs.Following.{four}
use Rattle.tuner.proofs.Outputs.{each_fits}
use Rattle.nights.specs.declared.NightAnswer.{NightAnswer}
use Rattle.nights.specs.Night.{no_night}
use Rattle.nights.specs.Going.{Going, roomy_less, go-begins, go-stops, go-more, go-ends}
use Rattle.nights.proofs.go.Goals as goal

pub loop-stretch-init : goal.loop-stretch-init
loop-stretch-init c =
    let a = c.args in
    let r = c.requires in
    let os = four a.out.now a.first.now a.second.now a.third.now in
    let gives = c.into_iter-stretch-iterator.ensures.into_iter_gives in
    let e = ap chunks_rest gives ∙ c.chunks-stretch-items.ensures.rest in
    let b = c.begin-sum.ensures in (
      ap chunks_size gives ∙ c.chunks-stretch-items.ensures.size,
      omega (arith, ap length e),
      subst (λ (l : List ℤ). Going a.t.now a.number a.size (no_night 0 a.t.now.numbers) a.samples.now os a.store.now a.t.now a.number 0 l c.begin-sum.result os a.store.now) (sym e)
          (subst (λ (n : NightAnswer). Going a.t.now a.number a.size (no_night 0 a.t.now.numbers) a.samples.now os a.store.now a.t.now a.number 0 a.samples.now n os a.store.now) (sym b)
          (go-begins a.t.now a.number a.size a.samples.now os a.store.now r.1 r.2)),
    )

pub block_at-a-requires-clause-good : goal.block_at-a-requires-clause-good
block_at-a-requires-clause-good c = c.loop-stretch.invariant.2.stays

pub block_at-a-requires-clause-room : goal.block_at-a-requires-clause-room
block_at-a-requires-clause-room c =
    let l = c.loop-stretch in
    let s = c.in-Some.ensures.steps.1 in
    roomy_less (l.at + length (chunks_rest l.stretch-iterator)) _ _ _ (omega (arith, s.1)) l.invariant.2.room

pub block_at-a-requires-clause-place : goal.block_at-a-requires-clause-place
block_at-a-requires-clause-place c =
    let l = c.loop-stretch in
    let g = l.invariant.2 in
    let t = l.t in
    let f = each_fits l.out l.first l.second l.third t.outs (l.at + length (chunks_rest l.stretch-iterator)) t.numbers.chosen g.stays.0.voices.few g.room in
    omega (arith, f.0)

pub add-requires : goal.add-requires
add-requires c = let g = c.loop-stretch.invariant.2 in (g.small, omega (arith, g.few, g.stays.0.lead.heard.count))

pub returns-then-a-gt1 : goal.returns-then-a-gt1
returns-then-a-gt1 c =
    let s = c.in-Some.ensures.steps.1 in
    let i = c.loop-stretch.invariant in
    go-stops (chunks_rest c.next.new.self) c.requires.0 s.0 (omega (arith, s.1, i.0)) s.2 c.block_at-a.ensures c.add.ensures.0 i.2 c.if-a-gt1.true

pub loop-stretch-preserved : goal.loop-stretch-preserved
loop-stretch-preserved c =
    let s = c.in-Some.ensures.steps in
    let i = c.loop-stretch.invariant in (
      s.0 ∙ i.0,
      omega (arith, i.1, ap length s.1.0, length-append c.in-Some.stretch.now (chunks_rest c.next.new.self)),
      go-more (chunks_rest c.next.new.self) c.requires.0 s.1.0 (omega (arith, s.1.1, i.0)) s.1.2 c.block_at-a.ensures c.add.ensures.0 i.2 (omega (arith, c.if-a-gt1.false)) c.add.ensures.1,
    )

pub returns : goal.returns
returns c = let s = c.in-None.ensures.steps in go-ends s.1.0 c.loop-stretch.invariant.2
