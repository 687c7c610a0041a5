-- The index chunks by place, and what is answered of them.
use Rattle.std.specs.Prelude.{◌≡◌, ℕ, List, map, filter, not, Some, None, Result, Vec}
use Rattle.std.specs.Global.{Global}
use Rattle.std.specs.declared.result.Result.TheVariants.{Ok, Err}
use Rattle.part_tree.specs.declared.names.Span.{Span}
use Rattle.part_tree.specs.declared.why.ReadFault.{ReadFault}
use Rattle.part_tree.specs.declared.why.ReadFault.TheVariants.{Why, Depot, Memory}
use Rattle.container_model.specs.Tables.{Table, named}
use Rattle.container_model.specs.Tests.{first}
use Rattle.avi_model.specs.Support.{by_place}
use Rattle.avi_model.specs.Why.{overlap_tests}
use Rattle.avi_file.specs.declared.index.IndexChunk.{IndexChunk}
use Rattle.avi_file.specs.Indexes.{kept_of}

-- a table is the chunk whose header stands at its place
pub record IsNamed (b : List ℕ) (t : Table) : Type 0 where
  pub place : ℕ
  pub is : t ≡ named b place

-- the bodies of chunks
abbrev pub bodies_in : List IndexChunk → List Span
bodies_in xs = map (λ x. x.body) xs

-- those of the standard indexes, and of the super indexes
abbrev pub standards_in : List IndexChunk → List Span
standards_in xs = bodies_in (filter (λ x. x.standard) xs)

abbrev pub supers_in : List IndexChunk → List Span
supers_in xs = bodies_in (filter (λ x. not x.standard) xs)

-- what is answered where chunks are tested from a place on
abbrev pub TestsApart : ℕ → List Table → Result Unit ReadFault → Type 0
TestsApart from ts (Ok u) = first (overlap_tests from ts) ≡ None
TestsApart from ts (Err (Why w)) = first (overlap_tests from ts) ≡ Some w
TestsApart from ts (Err Depot) = ⊥
TestsApart from ts (Err Memory) = ⊥

-- the chunks by place, or the first that overlaps the one before it
abbrev pub Orders : List Table → Result (Vec IndexChunk Global) ReadFault → Type 0
Orders ts (Ok sorted) = (first (overlap_tests 0 (by_place ts)) ≡ None) × (sorted.items ≡ map kept_of (by_place ts))
Orders ts (Err (Why w)) = first (overlap_tests 0 (by_place ts)) ≡ Some w
Orders ts (Err Depot) = ⊥
Orders ts (Err Memory) = Unit {0}
