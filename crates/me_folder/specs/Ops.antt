-- The calls that change a folder, and what each does.
use Rattle.std.specs.Prelude.{◌≡◌, ◌⊎◌, ℕ, List, [], ◌∷◌, take, Option, Some, None, option_map, IsSome, Result, MatchResult, ⊤}
use Rattle.me_disk.specs.declared.depot.DepotFault.{DepotFault}
use Rattle.me_disk.specs.declared.depot.Slot.{Slot}
use Rattle.me_disk.specs.declared.depot.Slot.TheVariants.{Main, Journal, Work}
use Rattle.me_folder.specs.Files.{File, new_file, wrote, appended, resized, made_safe, doubt}
use Rattle.me_folder.specs.Tree.{Name, Names, Tree, name_of}

-- a call that changes a folder, with what it is given; the last is a sync of a file that failed
pub data Op : Type 0 where
  Create : Slot → Op
  WriteAt : Slot → ℕ → List ℕ → Op
  Append : Slot → List ℕ → Op
  Resize : Slot → ℕ → Op
  SyncFile : Slot → Op
  Rename : Slot → Slot → Op
  Remove : Slot → Op
  SyncNames : Op
  Doubt : Slot → Op

-- ---- names

-- with this one in its place
abbrev pub with_name : Slot → Name → Names → Names
with_name Main n s = record { main = n; journal = s.journal; work = s.work }
with_name Journal n s = record { main = s.main; journal = n; work = s.work }
with_name Work n s = record { main = s.main; journal = s.journal; work = n }

-- it stands for another file, or for none; a power cut may leave it as it was
abbrev pub becomes : Option File → Name → Name
becomes f n = record { now = f; older = n.now ∷ n.older }

-- the file that it stands for is changed
abbrev pub inside : (File → File) → Name → Name
inside f n = record { now = option_map f n.now; older = n.older }

-- a power cut leaves it as it is
abbrev pub settled : Name → Name
settled n = record { now = n.now; older = [] }

-- ---- calls

-- the names after it
abbrev pub names_after : Op → Names → Names
names_after (Create n) s = with_name n (becomes (Some new_file) (name_of n s)) s
names_after (WriteAt n at bytes) s = with_name n (inside (wrote at bytes) (name_of n s)) s
names_after (Append n bytes) s = with_name n (inside (appended bytes) (name_of n s)) s
names_after (Resize n len) s = with_name n (inside (resized len) (name_of n s)) s
names_after (SyncFile n) s = with_name n (inside made_safe (name_of n s)) s
names_after (Rename from to) s = with_name from (becomes None (name_of from s)) (with_name to (becomes (name_of from s).now (name_of to s)) s)
names_after (Remove n) s = with_name n (becomes None (name_of n s)) s
names_after SyncNames s = record { main = settled s.main; journal = settled s.journal; work = settled s.work }
names_after (Doubt n) s = with_name n (inside doubt (name_of n s)) s

-- the folder after it
abbrev pub after : Op → Tree → Tree
after op t = record { names = names_after op t.names; past = t.names ∷ t.past }

-- where it can be done
abbrev pub Needs : Op → Names → Type 0
Needs (Create n) s = (name_of n s).now ≡ None
Needs (WriteAt n at bytes) s = IsSome (name_of n s).now
Needs (Append n bytes) s = IsSome (name_of n s).now
Needs (Resize n len) s = IsSome (name_of n s).now
Needs (SyncFile n) s = IsSome (name_of n s).now
Needs (Rename from to) s = IsSome (name_of from s).now
Needs (Remove n) s = IsSome (name_of n s).now
Needs SyncNames s = ⊤
Needs (Doubt n) s = ⊤

-- A file moves from `Work` to another name only. So of the names that are told no two ever stood for one file.
abbrev pub IsMove : Slot → Slot → Type 0
IsMove Work Main = Unit {0}
IsMove Work Journal = Unit {0}
IsMove _ _ = ⊥

-- what a call does that fails in the middle: a write with the first k bytes, and a sync puts the file in doubt
abbrev pub part : ℕ → Op → Op
part k (Create n) = Create n
part k (WriteAt n at bytes) = WriteAt n at (take k bytes)
part k (Append n bytes) = Append n (take k bytes)
part k (Resize n len) = Resize n len
part k (SyncFile n) = Doubt n
part k (Rename from to) = Rename from to
part k (Remove n) = Remove n
part k SyncNames = SyncNames
part k (Doubt n) = Doubt n

-- a call that fails may leave all as it was
abbrev pub MayDoNothing : Op → Type 0
MayDoNothing (SyncFile n) = ⊥
MayDoNothing _ = Unit {0}

-- it was done; a folder that tells nothing goes on telling nothing
abbrev pub Did : Op → Option Tree → Option Tree → Type 0
Did op None new = new ≡ None
Did op (Some t) new = Needs op t.names × (new ≡ Some (after op t))

-- it failed: nothing was done, or it was, or a part of it
abbrev pub Failed : Op → Option Tree → Option Tree → Type 0
Failed op old new = (MayDoNothing op × (new ≡ old)) ⊎ ((k : ℕ) × Did (part k op) old new)

-- what each call leaves
abbrev pub Meets : Op → Option Tree → Option Tree → Result Unit DepotFault → Type 0
Meets op old new result = MatchResult result (λ _. Did op old new) (λ _. Failed op old new)
