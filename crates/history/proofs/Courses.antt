-- Laws of a course: events, and more events after them; samples one after the other are the rules' fold, bytes the keyboard's; what events leave alone; and every range is kept.
use Rattle.std.specs.Prelude.{◌≡◌, refl, List, [], ◌∷◌, ◌++◌, map, ℕ, suc, ◌+◌, ℤ, length}
use Rattle.std.proofs.Common.{sym, ap, ◌∙◌, suc-add, add-suc, add-zero}
use Rattle.rules.specs.declared.Settings.{Settings}
use Rattle.rules.specs.Rules.{Given, heard_all, stepped, after, gives}
use Rattle.rules.specs.Facts.{InRange, SampleRate, ForceIn}
use Rattle.rules.proofs.Sane.{fresh_sane, stepped_sane}
use Rattle.keyboard.specs.Keys.{played}
use Rattle.keyboard.specs.Playing.{fresh_in, after_byte_in, on_channel_in}
use Rattle.history.specs.History.{Event, sample, new-settings, byte, Course, fresh_course, force_at, happened, course_after, given_by, samples_in}
use Rattle.history.specs.Courses.{CourseIn, EventIn, EventsIn, with_keyboard, with_take}

-- ---- events, and more events after them
pub course_after-append : (c : Course) (es fs : List Event) → course_after c (es ++ fs) ≡ course_after (course_after c es) fs
unfolding course_after
course_after-append c [] fs = refl
course_after-append c (e ∷ es) fs = course_after-append (happened c e) es fs

pub given_by-append : (c : Course) (es fs : List Event) → given_by c (es ++ fs) ≡ given_by c es ++ given_by (course_after c es) fs
unfolding course_after given_by
given_by-append c [] fs = refl
given_by-append c (sample x ∷ es) fs = ap (λ (gs : List Given). (stepped (force_at c) c.take x).given ∷ gs) (given_by-append (happened c (sample x)) es fs)
given_by-append c (new-settings s ∷ es) fs = given_by-append (happened c (new-settings s)) es fs
given_by-append c (byte b ∷ es) fs = given_by-append (happened c (byte b)) es fs

pub course_samples : (c : Course) (xs : List ℤ) → course_after c (map sample xs) ≡ with_take c (after (force_at c) c.take xs)
unfolding course_after happened after
course_samples c [] = refl
course_samples c (x ∷ xs) = course_samples (happened c (sample x)) xs

pub given-samples : (c : Course) (xs : List ℤ) → given_by c (map sample xs) ≡ gives (force_at c) c.take xs
unfolding given_by happened gives
given-samples c [] = refl
given-samples c (x ∷ xs) = ap (λ (gs : List Given). (stepped (force_at c) c.take x).given ∷ gs) (given-samples (happened c (sample x)) xs)

-- ---- bytes one after the other
pub course_bytes : (c : Course) (bs : List ℕ) → course_after c (map byte bs) ≡ with_keyboard c (played c.settings.channel c.keyboard bs)
unfolding course_after happened played
course_bytes c [] = refl
course_bytes c (b ∷ bs) = course_bytes (happened c (byte b)) bs

pub given-bytes : (c : Course) (bs : List ℕ) → given_by c (map byte bs) ≡ []
unfolding given_by
given-bytes c [] = refl
given-bytes c (b ∷ bs) = given-bytes (happened c (byte b)) bs

-- ---- the sample rate stays; the count grows by each sample, and each is heard
pub course_hertz : (c : Course) (es : List Event) → (course_after c es).hertz ≡ c.hertz
unfolding course_after happened
course_hertz c [] = refl
course_hertz c (sample x ∷ es) = course_hertz (happened c (sample x)) es
course_hertz c (new-settings s ∷ es) = course_hertz (happened c (new-settings s)) es
course_hertz c (byte b ∷ es) = course_hertz (happened c (byte b)) es

pub course_count : (c : Course) (es : List Event) → (course_after c es).take.count ≡ c.take.count + length (samples_in es)
unfolding course_after happened samples_in stepped
course_count c [] = sym (add-zero c.take.count)
course_count c (sample x ∷ es) =
    course_count (happened c (sample x)) es ∙ suc-add c.take.count (length (samples_in es)) ∙ sym (add-suc c.take.count (length (samples_in es)))
course_count c (new-settings s ∷ es) = course_count (happened c (new-settings s)) es
course_count c (byte b ∷ es) = course_count (happened c (byte b)) es

pub course_sound : (c : Course) (es : List Event) → (course_after c es).take.sound ≡ heard_all c.take.sound (samples_in es)
unfolding course_after happened samples_in stepped heard_all
course_sound c [] = refl
course_sound c (sample x ∷ es) = course_sound (happened c (sample x)) es
course_sound c (new-settings s ∷ es) = course_sound (happened c (new-settings s)) es
course_sound c (byte b ∷ es) = course_sound (happened c (byte b)) es

-- ---- something is given for each sample
pub given_by-length : (c : Course) (es : List Event) → length (given_by c es) ≡ length (samples_in es)
unfolding given_by samples_in
given_by-length c [] = refl
given_by-length c (sample x ∷ es) = ap suc (given_by-length (happened c (sample x)) es)
given_by-length c (new-settings s ∷ es) = given_by-length (happened c (new-settings s)) es
given_by-length c (byte b ∷ es) = given_by-length (happened c (byte b)) es

pub course_force : {c : Course} → CourseIn c → ForceIn (force_at c)
course_force i = record { settings = i.settings; key = i.keyboard.key; hertz = i.hertz }

pub fresh_course_in : {hertz : ℕ} {s : Settings} → SampleRate hertz → InRange s → CourseIn (fresh_course hertz s)
fresh_course_in rate e = record { settings = e; hertz = rate; keyboard = fresh_in; take = fresh_sane }

pub happened_in : {c : Course} (e : Event) → CourseIn c → EventIn e → CourseIn (happened c e)
unfolding happened
happened_in (sample x) i r =
    let f = course_force i in
    record { settings = i.settings; hertz = i.hertz; keyboard = i.keyboard; take = stepped_sane f i.take x }
happened_in (new-settings s) i r = record { settings = r; hertz = i.hertz; keyboard = on_channel_in _ _ _ i.keyboard; take = i.take }
happened_in (byte b) i r = record { settings = i.settings; hertz = i.hertz; keyboard = after_byte_in _ i.keyboard b; take = i.take }

pub course_in : {c : Course} (es : List Event) → CourseIn c → EventsIn es → CourseIn (course_after c es)
unfolding course_after
course_in [] i r = i
course_in {c = c} (e ∷ es) i r = course_in {c = happened c e} es (happened_in e i r.0) r.1

-- events in their ranges, and more of them; samples and bytes always are
pub events_in_append : (es fs : List Event) → EventsIn es → EventsIn fs → EventsIn (es ++ fs)
events_in_append [] fs r q = q
events_in_append (e ∷ es) fs r q = (r.0, events_in_append es fs r.1 q)

pub samples_in_lem : (xs : List ℤ) → EventsIn (map sample xs)
samples_in_lem [] = tt
samples_in_lem (x ∷ xs) = (tt, samples_in_lem xs)

pub bytes_in : (bs : List ℕ) → EventsIn (map byte bs)
bytes_in [] = tt
bytes_in (b ∷ bs) = (tt, bytes_in bs)
