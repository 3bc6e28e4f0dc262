-- The bench cases marked P, proved by one claim about their table, by computation.
use mathlib.Core.Path.{◌≡◌, refl}
use mathlib.Core.Bool.{true}
use Rattle.model.specs.Search.{any, first, count, found}
use Rattle.model.specs.Answers.{up_to, rule, rule₂, packed}
use Rattle.model.specs.Kinds.{kind_row}
use Rattle.model.specs.Layout.{start, section, value}
use Rattle.model.specs.Relations.{po, sw, edge, reach, hb}
use Rattle.model.specs.Relations as Relations
use Rattle.model.specs.WorkArea.{bits, list, rows, part, laid, filled}
use Rattle.model.specs.Refused.{unmarked, stray, out_of_range, cut_at, rule5, targeted, committed_in, carried, fielded, misfielded, met, sections, rule6, rule7, refusal}
use Rattle.model.specs.Rules.{broken11, broken12, monitored, held, broken13, least, first_of, begun, misstarted, ended, misjoined, broken14, rival, twin, broken15, seen_value, broken16, earlier, latest, write_ident, broken17, seen_hb, broken18, ordered, consistent, well_formed, racing}
use Rattle.model.specs.Serial.{listed, next, due, ready, turn, serial}
use Rattle.model.specs.Justified.{C#, alike, broken21, just_one, before, broken24, broken25, broken26, new, broken27, sw_to, joins, sw#, through, sufficient, lacks, missing, broken28, outside, broken29, committing}
use Rattle.model.specs.Questions.{verdict_refusal, race_refusal, order_refusal, left, judged, verdict, verdict_words, race_of, race, race_words, order_of, order, order_words, order_list}
use Rattle.model.specs.Bench.{bench}

pub cases_1_to_11 : bench ≡ true
unfolding bench any first count found up_to rule rule₂ packed kind_row start section value po sw edge reach hb Relations.race bits list rows part laid filled unmarked stray out_of_range cut_at rule5 targeted committed_in carried fielded misfielded met sections rule6 rule7 refusal broken11 broken12 monitored held broken13 least first_of begun misstarted ended misjoined broken14 rival twin broken15 seen_value broken16 earlier latest write_ident broken17 seen_hb broken18 ordered consistent well_formed racing listed next due ready turn serial C# alike broken21 just_one before broken24 broken25 broken26 new broken27 sw_to joins sw# through sufficient lacks missing broken28 outside broken29 committing verdict_refusal race_refusal order_refusal left judged verdict verdict_words race_of race race_words order_of order order_words order_list
cases_1_to_11 = refl
