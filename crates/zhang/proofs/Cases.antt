-- The table of cameras, proved by computing. Assumes nothing.
use Rattle.std.specs.Prelude.{refl}
use Rattle.std.specs.Float.Ieee.{is_nan, of_bits, of_int, neg, add, sub, mul, div, lt, le}
use Rattle.common.specs.Each.{All}
use Rattle.float.specs.Float.{abs_of}
use Rattle.root.specs.Root.{root}
use Rattle.zhang.specs.Zhang.{definite, from_homographies}
use Rattle.zhang.specs.Plate.{times_unit, shared_unit, unit_from, conic_with, plate_of}
use Rattle.zhang.specs.Table.{Holds, table}
use Rattle.zhang.specs.Theorem.{CasesHold}

all_hold : All Holds table
unfolding times_unit shared_unit unit_from conic_with plate_of root definite from_homographies abs_of is_nan of_bits of_int neg add sub mul div lt le
all_hold = ((refl, refl), ((refl, refl), ((refl, refl), ((refl, refl), (refl, (refl, (refl, (refl, (refl, (refl, (refl, (refl, (refl, (refl, (refl, tt)))))))))))))))

pub cases_hold : CasesHold
cases_hold = record { all_hold = all_hold }
