use Rattle.std.proofs.Common.{arith, inl, inr}
use Rattle.mov_file.proofs.Held.{if_ok, none_found}
use Rattle.mov_file.proofs.movie.astray_of.Goals as goal

pub returns-clause-astray : goal.returns-clause-astray
returns-clause-astray g c = λ b holds places. elim places [
  | inl e ↦ if_ok c.astray_in.result (λ found none. none_found b c.args.mdats.now c.args.track.now found e none) (c.astray_in.ensures.none (omega (arith, e)))
  | inr rows ↦ c.astray_in.ensures.astray b holds rows
]
