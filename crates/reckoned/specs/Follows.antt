-- The takes follow their histories: line by line the tuner is the one that a series of calls leaves, and what a block gives is what the rules give after all that was received in its take.
use Rattle.std.specs.Prelude.{◌≡◌, ℕ}
use mathlib.Core.List.{List, ◌∷◌, map}
use Rattle.tuner.specs.declared.Tuner.{Tuner}
use Rattle.account.specs.Account.{Call, Series, Received, received}
use Rattle.reporting.specs.Reporting.{Takes, Through}
use Rattle.reckoned.specs.Reckoned.{Past, given_in, pasts_after}

-- what was received in a take, as its history
abbrev pub past_of : Received → Past
past_of r = record { hertz = r.hertz; settings = r.settings; events = r.events }

-- a series of calls leaves the tuner; the newest take's history is what was received; and the takes are what the rules give over the histories
pub record Follows (t : Tuner) (takes : Takes) (ps : List Past) : Type 0 where
  pub calls : List Call
  pub series : Series calls t
  pub older : List Past
  pub pasts : ps ≡ past_of (received calls) ∷ older
  pub given : takes ≡ map given_in ps

-- ---- all of the input
pub record Ends (t : Tuner) (ps : List Past) (line input : List ℕ) (final : Takes) : Type 0 where
  pub pasts : List Past
  pub through : Through pasts_after t ps line input pasts
  pub given : final ≡ map given_in pasts
