use Rattle.info_list.specs.Fields.{Grows}
use Rattle.wave_file.specs.Reads.{ranges_below}
use Rattle.wave_file.proofs.fields.add_rows.Given as goal

-- the ranges so far
abbrev pub invariant-rows : goal.invariant-rows
invariant-rows l = Grows l.fn.fields l.fields (ranges_below l.k l.body)
