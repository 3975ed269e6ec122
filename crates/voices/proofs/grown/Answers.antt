-- The three arms are the three ways of a growth.
use Rattle.voices.proofs.Singing.{moved_on, moved_back, moved_forward}
use Rattle.voices.proofs.grown.Goals as goal

pub returns-then-b-rate : goal.returns-then-b-rate
returns-then-b-rate c = moved_back _ _ _ c.requires.1 c.if-b-rate.true

pub returns-then-b-rate-gt-FARTHEST : goal.returns-then-b-rate-gt-FARTHEST
returns-then-b-rate-gt-FARTHEST c = moved_forward _ _ _ c.requires.0 c.requires.1 c.if-b-rate.false c.if-b-rate-gt-FARTHEST.true

pub returns-else-b-rate-gt-FARTHEST : goal.returns-else-b-rate-gt-FARTHEST
returns-else-b-rate-gt-FARTHEST c = moved_on _ _ _ c.if-b-rate.false c.if-b-rate-gt-FARTHEST.false
