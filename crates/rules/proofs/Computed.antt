-- The worked numbers and the whole case are true of the definitions: each is computed.
use Rattle.std.specs.Prelude.{refl}
use Rattle.whole.specs.Numbers.{fold}
use Rattle.rules.specs.Rules.{silence, heard, heard_all, E, H, D, eighth_sample, eighth_due, meets_eps, meets_floor, offset, settings_number, start_number, cd_table, film_table, table, first_note, notes, note_period, of_scale, nearer, wanted_of, wanted, wanted_period, raw_rate, raw_toward, goal_of, smooth_total, smooth_rate, smooth_kept, curve, held, through, input_at, cycle_repeated, cycle_dropped, cycles, growth, fresh_take, no_tone, listened, listened_in, sample_at, whole_of, fraction_of, reading, eighths_after, stepped, gives, samples_out}
use Rattle.rules.specs.Worked.{Holds, AllHold, numbers, NumbersHold, WholeCase}

pub numbers_hold : NumbersHold
unfolding numbers AllHold Holds settings_number start_number silence heard heard_all fold E H D eighth_sample meets_eps meets_floor offset cd_table film_table table first_note notes note_period wanted wanted_of of_scale nearer raw_rate raw_toward wanted_period goal_of smooth_total smooth_rate smooth_kept curve held through growth cycle_repeated cycle_dropped cycles input_at
numbers_hold =
    ((refl, refl, refl), ((refl, refl, refl), ((refl, refl, refl), (refl, (refl, (refl, (refl, (refl, (refl, (refl, (refl, (refl, (refl, (refl, (refl, (refl, ((refl, refl), ((refl, refl), ((refl, refl), (refl, (refl, (refl, (refl, (refl, (refl, (refl, (refl, (refl, (refl, (refl, (refl, (refl, (refl, (refl, (refl, (refl, (refl, (refl, (refl, (refl, (refl, (refl, (refl, (refl, (refl, tt)))))))))))))))))))))))))))))))))))))))))))))

pub whole_case : WholeCase
unfolding fresh_take silence heard gives samples_out stepped eighth_due eighths_after no_tone listened listened_in growth cycle_repeated cycle_dropped cycles input_at reading curve held through sample_at whole_of fraction_of
whole_case = refl
