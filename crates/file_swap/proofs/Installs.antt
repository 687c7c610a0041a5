-- Before the install call the old file stands, and from then on it doesn't.
use Rattle.std.proofs.Common.{◌≡◌, ℕ, zero, suc, ◌+◌, ◌-◌, ◌*◌, ◌≤◌, ◌<◌, min, List, [], ◌∷◌, ◌++◌, length, take, map, Some, None, refl, sym, ◌∙◌, ap, subst, arith, length-append, append_assoc}
use Rattle.std.specs.Prelude.{IsTrue}
use Rattle.std.specs.List.{flat_map}
use Rattle.part_tree.specs.declared.plan.Patch.{Patch}
use Rattle.part_tree.specs.declared.plan.Segment.{Segment}
use Rattle.part_tree.specs.declared.plan.Segment.TheVariants.{Copy, Literal, Table}
use Rattle.part_tree.specs.declared.plan.Plan.{Plan}
use Rattle.part_tree.specs.declared.plan.Plan.TheVariants.{InPlace, Rewrite}
use Rattle.me_disk.specs.Disk.{Image, Disk, Only, plain}
use Rattle.me_disk.specs.Calls.{Call}
use Rattle.me_disk.specs.Calls.Call.{BeginWork, AppendWork, SyncWork, DropWork, InstallMain, InstallJournal, WriteMain, SetMainLen, SyncMain, DropJournal}
use Rattle.me_disk.proofs.Runs.{same_slots}
use Rattle.edit_journal.specs.Journal.{spelled}
use Rattle.edit_journal.specs.Settled.{Settles, Stands}
use Rattle.file_swap.specs.Steps.{Step, Range, block, blocks, page, pages, cut_in, part, appends, writes, segment_steps, cut_steps, end_steps, steps, calls, install_call, bytes_by, bytes_written}
use Rattle.file_swap.specs.Steps.Change.{Stays, Relocates}
use Rattle.file_swap.specs.Steps.Step.{Makes, Reads, Appends}
use Rattle.part_tree.specs.declared.table.TableForm.{TableForm}
use Rattle.part_tree.specs.Moves.{Move}
use Rattle.part_tree.specs.Tables.{width, new_width}
use Rattle.part_tree.specs.Plans.{applied, CanRun, Belongs}
use Rattle.file_swap.specs.Midway.Region.{Old}
use Rattle.file_swap.specs.Midway.{Region, region_after, region_in, regions, region_at, Phase, IsIn}
use Rattle.file_swap.specs.Swap.{fresh, Underway, IsSure}
use Rattle.file_swap.proofs.Midways.{settles_old, settles_new}
use Rattle.file_swap.proofs.Written.{by_all}

-- ---- steps that keep the region

abbrev AllQuiet : List Step → Type 0
AllQuiet [] = Unit {0}
AllQuiet (s ∷ ss) = ((r : Region) → region_in s r ≡ r) × AllQuiet ss

quiet-append : (xs ys : List Step) → AllQuiet xs → AllQuiet ys → AllQuiet (xs ++ ys)
quiet-append [] ys h h' = h'
quiet-append (x ∷ xs) ys h h' = (h.0, quiet-append xs ys h.1 h')

quiet_blocks : (b : List ℕ) (k at len : ℕ) → AllQuiet (map (λ (r : Range). Makes (AppendWork (part b r))) (cut_in block k at len))
quiet_blocks b zero at len = tt
quiet_blocks b (suc k) at len = (λ r. refl, quiet_blocks b k (at + min block len) (len - min block len))

quiet_copies : (k at len : ℕ) → AllQuiet (flat_map (λ (r : Range). Reads r.at r.len ∷ Appends r.len Stays ∷ []) (cut_in block k at len))
quiet_copies zero at len = tt
quiet_copies (suc k) at len = (λ r. refl, (λ r. refl, quiet_copies k (at + min block len) (len - min block len)))

quiet_pages : (moves : List Move) (form : TableForm) (from k first n : ℕ)
    → AllQuiet (flat_map (λ (r : Range). Reads (from + width form * r.at) (width form * r.len) ∷ Appends (new_width form * r.len) (Relocates moves form r.len) ∷ []) (cut_in page k first n))
quiet_pages moves form from zero first n = tt
quiet_pages moves form from (suc k) first n = (λ r. refl, (λ r. refl, quiet_pages moves form from k (first + min page n) (n - min page n)))

quiet_segment : (moves : List Move) (s : Segment) → AllQuiet (segment_steps moves s)
quiet_segment moves (Copy s) = quiet_copies (blocks s.len) s.at s.len
quiet_segment moves (Literal b) = quiet_blocks b (blocks (length b - 0)) 0 (length b - 0)
quiet_segment moves (Table form from rows) = quiet_pages moves form from (pages rows) 0 rows

quiet_segments : (moves : List Move) (ss : List Segment) → AllQuiet (flat_map (segment_steps moves) ss)
quiet_segments moves [] = tt
quiet_segments moves (s ∷ ss) = quiet-append (segment_steps moves s) (flat_map (segment_steps moves) ss) (quiet_segment moves s) (quiet_segments moves ss)

-- ---- before the install call, and from then on

quiet_old : (k : ℕ) (xs ys : List Step) → AllQuiet xs → k ≤ length xs → regions (take k (xs ++ ys)) Old ≡ Old
quiet_old zero xs ys quiet low = refl
quiet_old (suc k) [] ys quiet low = absurd (omega arith)
quiet_old (suc k) (x ∷ xs) ys quiet low = ap (λ (r : Region). regions (take k (xs ++ ys)) r) (quiet.0 Old) ∙ quiet_old k xs ys quiet.1 (omega arith)

call_later : (c : Call) (r : Region) → (r ≡ Old → ⊥) → region_after c r ≡ Old → ⊥
call_later BeginWork r late is = late is
call_later (AppendWork b) r late is = late is
call_later SyncWork r late is = late is
call_later DropWork r late is = late is
call_later InstallMain r late is = absurd cc
call_later InstallJournal r late is = absurd cc
call_later (WriteMain at b) r late is = late is
call_later (SetMainLen n) r late is = late is
call_later SyncMain r late is = absurd cc
call_later DropJournal r late is = absurd cc

step_later : (s : Step) (r : Region) → (r ≡ Old → ⊥) → region_in s r ≡ Old → ⊥
step_later (Makes c) r late is = call_later c r late is
step_later (Reads at n) r late is = late is
step_later (Appends n change) r late is = late is

later : (ss : List Step) (r : Region) → (r ≡ Old → ⊥) → regions ss r ≡ Old → ⊥
later [] r late is = late is
later (s ∷ ss) r late is = later ss (region_in s r) (step_later s r late) is

quiet_new : (k : ℕ) (xs ys : List Step) (s : Step) → AllQuiet xs → (region_in s Old ≡ Old → ⊥) → length xs < k → regions (take k (xs ++ s ∷ ys)) Old ≡ Old → ⊥
quiet_new zero xs ys s quiet late low is = absurd (omega arith)
quiet_new (suc k) [] ys s quiet late low is = later (take k ys) (region_in s Old) late is
quiet_new (suc k) (x ∷ xs) ys s quiet late low is =
    quiet_new k xs ys s quiet.1 late (omega arith) (sym (ap (λ (r : Region). regions (take k (xs ++ s ∷ ys)) r) (quiet.0 Old)) ∙ is)

blocks_length : (f : Range → Step) (k at len : ℕ) → length (map f (cut_in block k at len)) ≡ k
blocks_length f zero at len = refl
blocks_length f (suc k) at len = let h = blocks_length f k (at + min block len) (len - min block len) in omega arith

-- the calls before the install call, it, and those behind it
pub record Split (p : Plan) : Type 0 where
  pub front : List Step
  pub install : Step
  pub behind : List Step
  pub is : steps p ≡ front ++ install ∷ behind
  pub quiet : AllQuiet front
  pub late : region_in install Old ≡ Old → ⊥
  pub size : install_call p ≡ length front + 1

split : (p : Plan) → Split p
split (InPlace old new ps) =
    let j = spelled old new ps in
    let a = appends j 0 in
    let rest = flat_map (λ (p : Patch). writes p 0) ps ++ cut_steps old new in
    let e : length j - 0 ≡ length j = omega arith in
    let size : length a ≡ blocks (length j) = blocks_length (λ (r : Range). Makes (AppendWork (part j r))) (blocks (length j - 0)) 0 (length j - 0) ∙ ap blocks e in
    record {
      front = Makes BeginWork ∷ (a ++ Makes SyncWork ∷ []);
      install = Makes InstallJournal;
      behind = rest;
      is = ap (λ (l : List Step). Makes BeginWork ∷ l) (sym (append_assoc a (Makes SyncWork ∷ []) (Makes InstallJournal ∷ rest)));
      quiet = (λ r. refl, quiet-append a (Makes SyncWork ∷ []) (quiet_blocks j (blocks (length j - 0)) 0 (length j - 0)) (λ r. refl, tt));
      late = λ is. cc;
      size = omega (arith, size, length-append a (Makes SyncWork ∷ []));
    }
split (Rewrite new moves ss) =
    let a = flat_map (segment_steps moves) ss in
    record {
      front = Makes BeginWork ∷ (a ++ Makes SyncWork ∷ []);
      install = Makes InstallMain;
      behind = [];
      is = ap (λ (l : List Step). Makes BeginWork ∷ l) (sym (append_assoc a (Makes SyncWork ∷ []) (Makes InstallMain ∷ [])));
      quiet = (λ r. refl, quiet-append a (Makes SyncWork ∷ []) (quiet_segments moves ss) (λ r. refl, tt));
      late = λ is. cc;
      size = omega (arith, length-append a (Makes SyncWork ∷ []), length-append a end_steps);
    }

pub old_region : (p : Plan) (k : ℕ) → k < install_call p → region_at p k ≡ Old
old_region p k low =
    let s = split p in
    let size = s.size in
    ap (λ (l : List Step). regions (take k l) Old) s.is ∙ quiet_old k s.front (s.install ∷ s.behind) s.quiet (omega arith)

pub new_region : (p : Plan) (k : ℕ) → install_call p ≤ k → region_at p k ≡ Old → ⊥
new_region p k high is =
    let s = split p in
    let size = s.size in
    quiet_new k s.front s.behind s.install s.quiet s.late (omega arith) (sym (ap (λ (l : List Step). regions (take k l) Old) s.is) ∙ is)

pub phase_old : (p : Plan) (o : List ℕ) (k : ℕ) (i : Image) → Belongs p o → k < install_call p → Phase p o k i → Settles (Some o) i
phase_old p o k i belongs low phase = settles_old p o i (subst (λ (r : Region). IsIn r p o i) (old_region p k low) phase)

pub phase_new : (p : Plan) (o : List ℕ) (k : ℕ) (i : Image) → Belongs p o → install_call p ≤ k → Phase p o k i → Settles (Some (applied p o)) i
phase_new p o k i belongs high phase = settles_new (region_at p k) p o i belongs (new_region p k high) phase

pub all_written : (p : Plan) → CanRun p → bytes_by p (calls p) ≡ bytes_written p
all_written p can = by_all p (calls p) can (omega arith)

-- ---- the start

pub begins : (d : Disk) (p : Plan) (o : List ℕ) → Stands o d → (IsTrue d.tells → Belongs p o) → Underway (fresh p) o d
begins d p o stands belongs = record {
  unfailed = refl;
  belongs = belongs;
  held = λ tells. refl;
  midway = record {
    leftover = d.slots.work;
    at = record {
      state = stands.state;
      slots = λ tells. same_slots d.slots (record { main = Some o; journal = None; work = d.slots.work }) (stands.main tells) (stands.journal tells) refl;
    };
  };
}

pub begins_sure : (d : Disk) (p : Plan) (o : List ℕ) → Only (plain (Some o)) d → IsSure (fresh p) o d
begins_sure d p o only i h = only i h
