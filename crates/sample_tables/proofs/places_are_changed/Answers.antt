use Rattle.sample_tables.proofs.Moved.{all_long, places_moved}
use Rattle.sample_tables.proofs.places_are_changed.Goals as goal

pub returns : goal.returns
returns c = λ f ts short fits. places_moved f ts (all_long ts short) fits
