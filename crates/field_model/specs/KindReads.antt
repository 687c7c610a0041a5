-- What is asked of the reader and of the planner of a kind of files (this project's own).
use Rattle.std.specs.Prelude.{◌≡◌, ⊤, ℕ, true, List, length, Option, Some, None, Result}
use Rattle.std.specs.declared.result.Result.TheVariants.{Ok, Err}
use Rattle.part_tree.specs.Fields.{values}
use Rattle.part_tree.specs.Large.{limited}
use Rattle.part_tree.specs.Plans.{Belongs, applied}
use Rattle.part_tree.specs.declared.field.EditItem.{EditItem}
use Rattle.part_tree.specs.declared.field.FieldName.{FieldName}
use Rattle.part_tree.specs.declared.fields.Entry.{Entry}
use Rattle.part_tree.specs.declared.names.Kind.{Kind}
use Rattle.part_tree.specs.declared.names.Span.{Span}
use Rattle.part_tree.specs.declared.part.Part.{Part}
use Rattle.part_tree.specs.declared.shows.Track.{Track}
use Rattle.part_tree.specs.declared.plan.Plan.{Plan}
use Rattle.part_tree.specs.declared.plan.Plan.TheVariants.{InPlace, Rewrite}
use Rattle.part_tree.specs.declared.plan.PlanFault.{PlanFault}
use Rattle.part_tree.specs.declared.plan.PlanFault.TheVariants as plan
use Rattle.part_tree.specs.declared.why.ReadFault.{ReadFault}
use Rattle.part_tree.specs.declared.why.ReadFault.TheVariants as read
use Rattle.field_model.specs.Kind.{KindModel}

-- What a map tells of a file of any kind.
pub record Facts : Type 0 where
  pub kind : Kind
  pub fields : List Entry
  pub streams : ℕ
  pub parts : List Part
  pub essence : List Span
  pub hashed : Option Span
  pub entries : Option ℕ
  pub tracks : List Track

-- it tells what the file of the kind is
pub record Tells (k : KindModel) (o : List ℕ) (f : Facts) : Type 0 where
  pub supported : k.why o ≡ None
  pub kind : f.kind ≡ k.kind o
  pub fields : (name : FieldName) → values f.fields name ≡ k.fields o name
  pub streams : f.streams ≡ k.streams o
  pub parts : f.parts ≡ k.parts o
  pub essence : f.essence ≡ k.essence o
  pub hashed : f.hashed ≡ k.hashed o
  pub entries : f.entries ≡ k.entries o
  pub tracks : f.tracks ≡ k.tracks o

-- why no map is read: the first refusal, where it is one
abbrev pub Refuses : KindModel → List ℕ → ReadFault → Type 0
Refuses k o (read.Why w) = k.why o ≡ Some w
Refuses k o read.Depot = ⊤
Refuses k o read.Memory = ⊤

-- the map of a supported file, or the first refusal
abbrev pub ReadsKind : {M : Type 0} → KindModel → (List ℕ → M → Type 0) → List ℕ → Result M ReadFault → Type 0
ReadsKind k maps o (Ok m) = maps o m
ReadsKind k maps o (Err f) = Refuses k o f

-- in place exactly where the edit has room, and then with its patches; else a new file
abbrev pub IsForm : KindModel → List ℕ → List EditItem → Plan → Type 0
IsForm k o e (InPlace old new ps) = (k.has_room o e ≡ true) × (old ≡ length o) × (new ≡ length (k.new_file o e)) × (ps ≡ k.patches o e)
IsForm k o e (Rewrite new moves segments) = (k.has_room o e ≡ true → ⊥) × (new ≡ length (k.new_file o e))

-- a plan of an edit that isn't too large, which makes the new file
pub record IsPlanOf (k : KindModel) (o : List ℕ) (e : List EditItem) (p : Plan) : Type 0 where
  pub fits : k.too_large o e ≡ None
  pub makes : applied p o ≡ k.new_file o e
  pub form : IsForm k o e p
  pub belongs : Belongs p o

-- why nothing is planned: the first size that passes its limit, where it is one
abbrev pub Declines : KindModel → List ℕ → List EditItem → PlanFault → Type 0
Declines k o e (plan.TooLarge size limit) = k.too_large o e ≡ Some (limited limit size)
Declines k o e plan.Depot = ⊤
Declines k o e plan.Memory = ⊤

-- the plan of an edit, or the first size that is too large
abbrev pub PlansKind : KindModel → List ℕ → List EditItem → Result Plan PlanFault → Type 0
PlansKind k o e (Ok p) = IsPlanOf k o e p
PlansKind k o e (Err f) = Declines k o e f
