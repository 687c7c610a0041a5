-- A form by itself, and what it needs.
use Rattle.std.proofs.Common.{◌≡◌, ℕ, ◌<◌, ◌≤◌, Bool, length, sym, ap, arith}
use Rattle.std.specs.Prelude.{if◌then◌else◌, Some, None}
use Rattle.std.proofs.lemmas.Bool.{le-ltb, lt-ltb}
use Rattle.std.proofs.lemmas.List.{append-nil}
use Rattle.part_tree.specs.declared.why.Why.TheVariants.{Truncated}
use Rattle.container_model.specs.Chunk.{Chunk}
use Rattle.container_model.specs.Tests.{first}
use Rattle.avi_model.specs.Why.{steps_tests}
use Rattle.avi_file.specs.declared.list.Reading.{Reading}
use Rattle.avi_file.specs.Walk.{ReadAll}
use Rattle.avi_file.specs.Forms.{form_told}

pub form_short : (at : ℕ) (c : Chunk) (r : Reading) → length c.body < 4 → first (steps_tests r.met (form_told at c).steps) ≡ Some (Truncated at)
form_short at c r few = ap (λ (t : Bool). if t then Some (Truncated at) else None) (lt-ltb (length c.body) 4 few)

pub form_read : (at : ℕ) (c : Chunk) (r : Reading) → 4 ≤ length c.body → ReadAll (form_told at c) r r
form_read at c r long = record {
  tests = ap (λ (t : Bool). if t then Some (Truncated at) else None) (le-ltb (length c.body) 4 long);
  met = omega arith;
  parts = sym (append-nil r.parts.items);
  streams = sym (append-nil r.streams.items);
}
