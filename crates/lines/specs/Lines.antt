-- The line program's lines, in document 01's words: what a line says, and what it is answered. Definitions only.
use Rattle.std.specs.Prelude.{◌≡◌, Bool, true, false, cond, ◌&&◌, List, [], ◌∷◌, ◌++◌, ℕ, ◌≤◌, ◌<◌, eqb, leb, ℤ, pos, ◌⊎◌, ◌+◌, length, get_or, take, drop, replicate, Option, Some, None, option_map, option_and_then}
use Rattle.rules.specs.declared.Settings.{Settings}
use Rattle.rules.specs.Rules.{scale_mode, cd_rate, longest_block}
use Rattle.tuner.specs.declared.Tuner.{Tuner}
use Rattle.tuner.specs.declared.Answer.{Answer}
use Rattle.tuner.specs.Tuners.{Took, Started, Changed, Reset, Keyed}
use Rattle.text.specs.Text.{fields, number, sample, decimal, sample_fields, Put}

-- ---- what a line says

pub data Line : Type 0 where
  start : ℕ → Settings → Line
  change : Settings → Line
  block : ℕ → List ℤ → Line
  reset : Line
  mode : ℕ → Line
  channel : ℕ → Line
  midi : List ℕ → Line
  unreadable : Line

-- every field is read in one way; none where one of them cannot be
unfoldable pub each : {A : Type 0} → (List ℕ → Option A) → List (List ℕ) → Option (List A)
each how [] = Some []
each {A} how (f ∷ fs) = option_and_then (λ (x : A). option_map (λ (xs : List A). x ∷ xs) (each how fs)) (how f)

-- scale, eps, decay, floor, none of them missing, and what is made of the fields after them; a start has mode scale and channel 0
unfoldable pub four : (Settings → List ℕ → Option Line) → List ℕ → Option Line
four make [] = None
four make (a ∷ []) = None
four make (a ∷ b ∷ []) = None
four make (a ∷ b ∷ c ∷ []) = None
four make (a ∷ b ∷ c ∷ d ∷ more) = make (record { scale = a; eps = b; decay = c; floor = d; mode = scale_mode; channel = 0 }) more

-- a start: the sample rate comes last, 44,100 if missing, and no field more
unfoldable pub start_of : Settings → List ℕ → Option Line
start_of s [] = Some (start cd_rate s)
start_of s (hertz ∷ []) = Some (start hertz s)
start_of s (hertz ∷ e ∷ more) = None

-- a change: no field more
unfoldable pub change_of : Settings → List ℕ → Option Line
change_of s [] = Some (change s)
change_of s (e ∷ more) = None

-- a setting alone: neither a missing nor an extra field
unfoldable pub one : List ℕ → Option ℕ
one [] = None
one (a ∷ []) = Some a
one (a ∷ b ∷ more) = None

-- what is made of settings; each is at most 4294967295
abbrev pub settings_in : {A : Type 0} → (List ℕ → Option A) → List (List ℕ) → Option A
settings_in make fs = option_and_then make (each (number 4294967295) fs)

-- what could be read, or a line that cannot be
unfoldable pub line_of : Option Line → Line
line_of None = unreadable
line_of (Some line) = line

-- the fields after the first word
unfoldable pub start_in : List (List ℕ) → Line
start_in fs = line_of (settings_in (four start_of) fs)

unfoldable pub change_in : List (List ℕ) → Line
change_in fs = line_of (settings_in (four change_of) fs)

-- a block number is at most 65535; without samples it is an empty block
unfoldable pub block_in : List (List ℕ) → Line
block_in [] = unreadable
block_in (f ∷ fs) = line_of (option_and_then (λ (k : ℕ). option_map (block k) (each sample fs)) (number 65535 f))

unfoldable pub reset_in : List (List ℕ) → Line
reset_in [] = reset
reset_in (f ∷ fs) = unreadable

unfoldable pub mode_in : List (List ℕ) → Line
mode_in fs = line_of (option_map mode (settings_in one fs))

unfoldable pub channel_in : List (List ℕ) → Line
channel_in fs = line_of (option_map channel (settings_in one fs))

-- at least one byte, each at most 255
unfoldable pub midi_in : List (List ℕ) → Line
midi_in [] = unreadable
midi_in (f ∷ fs) = line_of (option_map midi (each (number 255) (f ∷ fs)))

-- two texts are the same
unfoldable pub same : List ℕ → List ℕ → Bool
same [] [] = true
same [] (b ∷ bs) = false
same (a ∷ rest) [] = false
same (a ∷ rest) (b ∷ bs) = eqb a b && same rest bs

-- "start", "change", "block", "reset", "mode", "channel", "midi"
abbrev pub start_word : List ℕ
start_word = 115 ∷ 116 ∷ 97 ∷ 114 ∷ 116 ∷ []

abbrev pub change_word : List ℕ
change_word = 99 ∷ 104 ∷ 97 ∷ 110 ∷ 103 ∷ 101 ∷ []

abbrev pub block_word : List ℕ
block_word = 98 ∷ 108 ∷ 111 ∷ 99 ∷ 107 ∷ []

abbrev pub reset_word : List ℕ
reset_word = 114 ∷ 101 ∷ 115 ∷ 101 ∷ 116 ∷ []

abbrev pub mode_word : List ℕ
mode_word = 109 ∷ 111 ∷ 100 ∷ 101 ∷ []

abbrev pub channel_word : List ℕ
channel_word = 99 ∷ 104 ∷ 97 ∷ 110 ∷ 110 ∷ 101 ∷ 108 ∷ []

abbrev pub midi_word : List ℕ
midi_word = 109 ∷ 105 ∷ 100 ∷ 105 ∷ []

unfoldable pub record_in : List (List ℕ) → Line
record_in [] = unreadable
record_in (word ∷ fs) =
    cond (same word start_word) (start_in fs)
    (cond (same word change_word) (change_in fs)
    (cond (same word block_word) (block_in fs)
    (cond (same word reset_word) (reset_in fs)
    (cond (same word mode_word) (mode_in fs)
    (cond (same word channel_word) (channel_in fs)
    (cond (same word midi_word) (midi_in fs) unreadable))))))

-- a line of at most 8,192 bytes, without its end
unfoldable pub read : List ℕ → Line
read line = cond (leb (length line) 8192) (record_in (fields line)) unreadable

-- ---- what it is answered

-- the answer's number
abbrev pub number_line : ℕ → List ℕ
number_line n = decimal n ++ (10 ∷ [])

-- for blocks also written, repeated, dropped, then the samples out
abbrev pub block_line : Answer → List ℤ → List ℕ
block_line a ys =
    decimal a.number ++ (9 ∷ decimal a.written) ++ (9 ∷ decimal a.repeated) ++ (9 ∷ decimal a.dropped) ++ sample_fields (take a.written ys) ++ (10 ∷ [])

-- what lines speak to: a tuner, and the store that is lent for its list
pub record Desk : Type 0 where
  pub tuner : Tuner
  pub store : List ℕ

abbrev pub desk : Tuner → List ℕ → Desk
desk t store = record { tuner = t; store = store }

-- an answer that has no more to say than its number
abbrev pub numbered : ℕ → Answer
numbered v = record { number = v; written = 0; repeated = 0; dropped = 0; pitched = 0; strayed = 0; rows = 0; left = 0 }

-- the settings that change, mode and channel ask the tuner t for: those that a line does not name stay
abbrev pub with_four : Tuner → Settings → Settings
with_four t s = let o = t.numbers.settings in record { scale = s.scale; eps = s.eps; decay = s.decay; floor = s.floor; mode = o.mode; channel = o.channel }

abbrev pub with_mode : Tuner → ℕ → Settings
with_mode t m = let s = t.numbers.settings in record { scale = s.scale; eps = s.eps; decay = s.decay; floor = s.floor; mode = m; channel = s.channel }

abbrev pub with_channel : Tuner → ℕ → Settings
with_channel t c = let s = t.numbers.settings in record { scale = s.scale; eps = s.eps; decay = s.decay; floor = s.floor; mode = s.mode; channel = c }

-- a start keeps a list where the tuner before it keeps one, and chooses no voices
abbrev pub StartsAnew : Desk → ℕ → Settings → Tuner → ℕ → Type 0
StartsAnew d hertz s t' v = Started hertz s d.tuner.numbers.listed [] d.store t' v

-- the lead's output alone is lent to a block, so that a tuner with voices answers 4
abbrev pub alone : List ℤ → List (List ℤ)
alone ys = ys ∷ [] ∷ [] ∷ [] ∷ []

abbrev pub TookAlone : Desk → ℕ → List ℤ → Desk → Answer → List ℤ → Type 0
TookAlone d k xs d' a ys = Took d.tuner k xs (alone (replicate longest_block (pos 0))) d.store d'.tuner a (alone ys) d'.store

-- a line to the desk d leaves d' and is answered by this text, which prints this answer
pub data Said (d : Desk) : Line → Desk → List ℕ → Answer → Type 0 where
  begun : {hertz : ℕ} {s : Settings} {t' : Tuner} {v : ℕ} → StartsAnew d hertz s t' v → v ≡ 0 → Said d (start hertz s) (desk t' d.store) (number_line v) (numbered v)
  not_begun : {hertz : ℕ} {s : Settings} {t' : Tuner} {v : ℕ} → StartsAnew d hertz s t' v → (v ≡ 0 → ⊥) → Said d (start hertz s) d (number_line v) (numbered v)
  changed : {s : Settings} {t' : Tuner} {v : ℕ} → Changed d.tuner (with_four d.tuner s) t' v → Said d (change s) (desk t' d.store) (number_line v) (numbered v)
  taken : {k : ℕ} {xs ys : List ℤ} {t' : Tuner} {store' : List ℕ} {a : Answer} → TookAlone d k xs (desk t' store') a ys → Said d (block k xs) (desk t' store') (block_line a ys) a
  begun-again : {t' : Tuner} {v : ℕ} → Reset d.tuner d.store t' v → Said d reset (desk t' d.store) (number_line v) (numbered v)
  mode-changed : {m : ℕ} {t' : Tuner} {v : ℕ} → Changed d.tuner (with_mode d.tuner m) t' v → Said d (mode m) (desk t' d.store) (number_line v) (numbered v)
  channel-changed : {c : ℕ} {t' : Tuner} {v : ℕ} → Changed d.tuner (with_channel d.tuner c) t' v → Said d (channel c) (desk t' d.store) (number_line v) (numbered v)
  keyed : {bytes : List ℕ} {t' : Tuner} {v : ℕ} → Keyed d.tuner bytes t' v → Said d (midi bytes) (desk t' d.store) (number_line v) (numbered v)
  not_read : Said d unreadable d (number_line 10) (numbered 10)

-- a start or a reset that is taken begins a take
unfoldable pub begins : Line → Answer → Bool
begins (start hertz s) a = eqb a.number 0
begins (change s) a = false
begins (block k xs) a = false
begins reset a = eqb a.number 0
begins (mode m) a = false
begins (channel c) a = false
begins (midi bytes) a = false
begins unreadable a = false

-- the promise of a line: with room for 4,096 bytes it is answered at the front of the output; with less nothing is done, and the answer is 4
pub data Answered (d : Desk) (line out : List ℕ) (d' : Desk) (a : Answer) (n : ℕ) (out' : List ℕ) : Type 0 where
  answered : {text : List ℕ} → 4096 ≤ length out → Said d (read line) d' text a → Put out 0 text out' n → Answered d line out d' a n out'
  no_room : length out < 4096 → d' ≡ d → a ≡ numbered 4 → n ≡ 0 → out' ≡ out → Answered d line out d' a n out'

-- no line ends in these bytes
abbrev pub NoEnd : List ℕ → Type 0
NoEnd bs = (k : ℕ) → k < length bs → get_or bs k 0 ≡ 10 → ⊥

-- whole lines to the desk d, each with its end, leave d' and are answered by this text, in their order
pub data AllSaid (d : Desk) : List ℕ → Desk → List ℕ → Type 0 where
  no_line : AllSaid d [] d []
  line-more : {before : List ℕ} (line : List ℕ) {u d' : Desk} {text more : List ℕ} {a : Answer} → AllSaid d before u text → NoEnd line → Said u (read line) d' more a → AllSaid d (before ++ line ++ (10 ∷ [])) d' (text ++ more)

-- the promise of a batch: the input's first `at` bytes are whole lines and answered; after them no line ends, or there is no room for an answer
pub record AnsweredAll (d : Desk) (input out : List ℕ) (d' : Desk) (at n : ℕ) (out' : List ℕ) : Type 0 where
  pub within : at ≤ length input
  pub text : List ℕ
  pub said : AllSaid d (take at input) d' text
  pub put : Put out 0 text out' n
  pub stopped : NoEnd (drop at input) ⊎ (length out < n + 4096)
