use Rattle.me_generate.proofs.Below.{stated_bytes}
use Rattle.me_generate.proofs.made_files_are_bytes.Goals as goal

pub returns : goal.returns
returns c = stated_bytes
