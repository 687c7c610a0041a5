-- A movie before an edit, and what an edit makes of the carriers in its `moov` (this project's own).
use Rattle.std.specs.Prelude.{◌≡◌, ◌++◌, ℕ, List, false, None, Some, Result}
use Rattle.std.specs.declared.result.Result.TheVariants.{Ok, Err}
use Rattle.part_tree.specs.Large.{first_above, limited}
use Rattle.part_tree.specs.declared.plan.PlanFault.{PlanFault}
use Rattle.part_tree.specs.declared.plan.PlanFault.TheVariants.{TooLarge, Depot, Memory}
use Rattle.mov_model.specs.Carried.{Changes}
use Rattle.mov_model.specs.Large.{key_sizes, user_sizes}
use Rattle.mov_model.specs.Movie.{movie_of}
use Rattle.mov_plan.specs.Carry.{IsKeyStep, IsUserStep, Tell, cells_of}
use Rattle.mov_plan.specs.Frame.{IsMoovOf, IsSoundMoov}
use Rattle.mov_plan.specs.Places.{Follow}
use Rattle.mov_plan.specs.Planned.{AreHolders}
use Rattle.mov_plan.specs.declared.moov_carriers.Carries.{Carries}
use Rattle.edit_planner.specs.declared.movie.Laid.{Laid}

-- It tells where moov stands in a file, its atoms, and those in which tables of chunk places stand.
pub record IsLaid (b : List ℕ) (l : Laid) : Type 0 where
  pub moov : IsMoovOf b l.moov
  pub tell : Tell b false l.places.items (cells_of (movie_of b))
  pub holders : AreHolders b l.holders.items

-- Whatever the file: the places follow each other in moov, in a file of this length.
pub record StandLaid (len : ℕ) (l : Laid) : Type 0 where
  pub sound : IsSoundMoov l.moov
  pub follow : Follow l.moov.from l.places.items l.moov.end
  pub len_is : l.moov.len ≡ len

-- What becomes of the carriers, of which neither is too large; or the first size that is.
abbrev pub CarriesEdit : List ℕ → Changes → Result Carries PlanFault → Type 0
CarriesEdit b e (Ok c) = IsUserStep e.users c.user (cells_of (movie_of b)) × IsKeyStep e.keys c.keys (cells_of (movie_of b))
    × (first_above (user_sizes (movie_of b) e.users ++ key_sizes (movie_of b) e.keys) ≡ None)
CarriesEdit b e (Err (TooLarge size limit)) = first_above (user_sizes (movie_of b) e.users ++ key_sizes (movie_of b) e.keys) ≡ Some (limited limit size)
CarriesEdit b e (Err Depot) = Unit {0}
CarriesEdit b e (Err Memory) = Unit {0}
