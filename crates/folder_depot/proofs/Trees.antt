-- What is done to a folder, one call after another.
use Rattle.std.proofs.Common.{◌≡◌, ◌⊎◌, inl, inr, ⊎_elim, ℕ, List, refl, sym, ◌∙◌, subst, arith}
use Rattle.std.specs.Prelude.{Option, Some, None, Result, Ok, Err}
use Rattle.me_disk.specs.declared.depot.DepotFault.{DepotFault}
use Rattle.me_disk.specs.declared.depot.Slot.{Slot}
use Rattle.me_disk.specs.declared.depot.Slot.TheVariants.{Main, Journal, Work}
use Rattle.me_disk.specs.Disk.{Image, Slots}
use Rattle.me_folder.specs.Files.{made_safe, doubt}
use Rattle.me_folder.specs.Tree.{Name, Names, Tree, slots_in, NameLeaves, CutLeaves}
use Rattle.me_folder.specs.Ops.{Op, SyncFile, Remove, SyncNames, Doubt, Needs, after, names_after, inside, settled, part, Did, Failed, Meets}
use Rattle.me_folder.proofs.Cuts.{counts_now, FileLeaves-safe, FileLeaves-doubt, safe_content, doubt_content}
use Rattle.folder_depot.specs.Moves.{On, GoesOn, MovesWork, Shrinks}
use Rattle.folder_depot.specs.Cleared.{Cleared, Synced}

-- ---- moments

pub goes_nowhere : (P : Image → Type 0) (t : Tree) → GoesOn P t t
goes_nowhere P t = record { clock = omega arith; since = λ n i le h. inl h; stay = λ n i le h. h }

-- a call more, after which a power cut leaves what one before the run might have left, or P
pub goes_after : (P : Image → Type 0) (op : Op) (a b : Tree) → GoesOn P a b
    → ((i : Image) → CutLeaves (names_after op b.names) i → CutLeaves a.names i ⊎ P i) → GoesOn P a (after op b)
goes_after P op a b p now = record {
  clock = omega (arith, p.clock);
  since = λ n i le h. ⊎_elim
      (λ here. ⊎_elim (λ old. inl (counts_now a.names a.past n i old)) (λ new. inr new) (now i here))
      (λ earlier. p.since n i le earlier.1)
      h;
  stay = λ n i le h. inr (omega (arith, p.clock, le), p.stay n i le h);
}

-- a run that adds no image
pub goes_quiet : (P : Image → Type 0) (a b c : Tree) → GoesOn P a b → GoesOn (λ i. ⊥) b c → GoesOn P a c
goes_quiet P a b c p q = record {
  clock = omega (arith, p.clock, q.clock);
  since = λ n i le h. ⊎_elim (λ early. p.since n i le early) (λ none. absurd none) (q.since n i (omega (arith, p.clock, le)) h);
  stay = λ n i le h. q.stay n i (omega (arith, p.clock, le)) (p.stay n i le h);
}

pub goes_weaker : (P Q : Image → Type 0) (a b : Tree) → ((i : Image) → P i → Q i) → GoesOn P a b → GoesOn Q a b
goes_weaker P Q a b weaker p = record { clock = p.clock; since = λ n i le h. ⊎_elim (λ old. inl old) (λ new. inr (weaker i new)) (p.since n i le h); stay = p.stay }

-- ---- where it is told

pub on_same : (R : Tree → Tree → Type 0) → ((t : Tree) → R t t) → (x y : Option Tree) → y ≡ x → On R x y
on_same R r None y same = same
on_same R r (Some t) y same = (t, same, r t)

pub on_did : (R : Tree → Tree → Type 0) (op : Op) (x y : Option Tree) → ((t : Tree) → x ≡ Some t → Needs op t.names → R t (after op t)) → Did op x y → On R x y
on_did R op None y r did = did
on_did R op (Some t) y r did = (after op t, did.1, r t refl did.0)

pub on_then : (R S T : Tree → Tree → Type 0) → ((a b c : Tree) → R a b → S b c → T a c) → (x y z : Option Tree) → On R x y → On S y z → On T x z
on_then R S T f None y z p q = subst (λ (o : Option Tree). On S o z) p q
on_then R S T f (Some t) y z p q =
    let last : On S (Some p.0) z = subst (λ (o : Option Tree). On S o z) p.1 q in
    (last.0, last.1, f t p.0 last.0 p.2 last.2)

pub on_weaker : (R S : Tree → Tree → Type 0) (x y : Option Tree) → ((a b : Tree) → x ≡ Some a → y ≡ Some b → R a b → S a b) → On R x y → On S x y
on_weaker R S None y f p = p
on_weaker R S (Some t) y f p = (p.0, p.1, f t p.0 refl p.1 p.2)

-- a call that failed, done in part or not at all
pub on_failed : (R : Tree → Tree → Type 0) (op : Op) (x y : Option Tree) → ((t : Tree) → R t t)
    → ((k : ℕ) (t : Tree) → x ≡ Some t → Needs (part k op) t.names → R t (after (part k op) t)) → Failed op x y → On R x y
on_failed R op x y same did failed = ⊎_elim (λ none. on_same R same x y none.1) (λ done. on_did R (part done.0 op) x y (did done.0) done.1) failed

-- ---- `Work` alone

pub work_refl : (t : Tree) → MovesWork t t
work_refl t = record { main = refl; journal = refl; goes = goes_nowhere (λ i. ⊥) t }

pub work_trans : (a b c : Tree) → MovesWork a b → MovesWork b c → MovesWork a c
work_trans a b c p q = record { main = q.main ∙ p.main; journal = q.journal ∙ p.journal; goes = goes_quiet (λ i. ⊥) a b c p.goes q.goes }

leaves_moved : (s t : Names) → t.main ≡ s.main → t.journal ≡ s.journal → (i : Image) → CutLeaves t i → CutLeaves s i
leaves_moved s t p q i h = record { main = subst (λ (n : Name). NameLeaves n i.main) p h.main; journal = subst (λ (n : Name). NameLeaves n i.journal) q h.journal }

pub work_leaves : (a b : Tree) → MovesWork a b → (i : Image) → CutLeaves b.names i → CutLeaves a.names i
work_leaves a b p i h = leaves_moved a.names b.names p.main p.journal i h

pub work_left : (a b : Tree) → MovesWork a b → (i : Image) → CutLeaves a.names i → CutLeaves b.names i
work_left a b p i h = leaves_moved b.names a.names (sym p.main) (sym p.journal) i h

pub work_after : (op : Op) (t : Tree) → (after op t).names.main ≡ t.names.main → (after op t).names.journal ≡ t.names.journal → MovesWork t (after op t)
work_after op t p q = record { main = p; journal = q; goes = goes_after (λ i. ⊥) op t t (goes_nowhere (λ i. ⊥) t) (λ i h. inl (leaves_moved t.names (names_after op t.names) p q i h)) }

pub work_cleared : (x y : Option Tree) → Cleared Work x y → On MovesWork x y
work_cleared x y cleared = ⊎_elim (λ same. on_same MovesWork work_refl x y same) (λ did. on_did MovesWork (Remove Work) x y (λ t is needs. work_after (Remove Work) t refl refl) did) cleared

-- ---- what shrinks

pub shrinks_refl : (t : Tree) → Shrinks t t
shrinks_refl t = record { slots = refl; fewer = λ i h. h; goes = goes_nowhere (λ i. ⊥) t }

pub shrinks_trans : (a b c : Tree) → Shrinks a b → Shrinks b c → Shrinks a c
shrinks_trans a b c p q = record { slots = q.slots ∙ p.slots; fewer = λ i h. p.fewer i (q.fewer i h); goes = goes_quiet (λ i. ⊥) a b c p.goes q.goes }

shrinks_after : (op : Op) (t : Tree) → slots_in (after op t).names ≡ slots_in t.names → ((i : Image) → CutLeaves (after op t).names i → CutLeaves t.names i) → Shrinks t (after op t)
shrinks_after op t slots fewer = record { slots = slots; fewer = fewer; goes = goes_after (λ i. ⊥) op t t (goes_nowhere (λ i. ⊥) t) (λ i h. inl (fewer i h)) }

file_fewer : (n : Name) (m : Option (List ℕ)) → NameLeaves (inside made_safe n) m → NameLeaves n m
file_fewer n m h = ⊎_elim (λ now. inl (FileLeaves-safe n.now m now)) (λ old. inr old) h

doubt_fewer : (n : Name) (m : Option (List ℕ)) → NameLeaves (inside doubt n) m → NameLeaves n m
doubt_fewer n m h = ⊎_elim (λ now. inl (FileLeaves-doubt n.now m now)) (λ old. inr old) h

name_fewer : (n : Name) (m : Option (List ℕ)) → NameLeaves (settled n) m → NameLeaves n m
name_fewer n m h = ⊎_elim (λ now. inl now) (λ none. absurd none) h

with_main : (s : Slots) (m : Option (List ℕ)) → m ≡ s.main → record { main = m; journal = s.journal; work = s.work } ≡ s
with_main s m e = λ k. record { main = e k; journal = s.journal; work = s.work }

with_journal : (s : Slots) (m : Option (List ℕ)) → m ≡ s.journal → record { main = s.main; journal = m; work = s.work } ≡ s
with_journal s m e = λ k. record { main = s.main; journal = e k; work = s.work }

with_work : (s : Slots) (m : Option (List ℕ)) → m ≡ s.work → record { main = s.main; journal = s.journal; work = m } ≡ s
with_work s m e = λ k. record { main = s.main; journal = s.journal; work = e k }

pub shrinks_file : (n : Slot) (t : Tree) → Shrinks t (after (SyncFile n) t)
shrinks_file Main t = shrinks_after (SyncFile Main) t (with_main (slots_in t.names) _ (safe_content t.names.main.now)) (λ i h. record { main = file_fewer t.names.main i.main h.main; journal = h.journal })
shrinks_file Journal t = shrinks_after (SyncFile Journal) t (with_journal (slots_in t.names) _ (safe_content t.names.journal.now)) (λ i h. record { main = h.main; journal = file_fewer t.names.journal i.journal h.journal })
shrinks_file Work t = shrinks_after (SyncFile Work) t (with_work (slots_in t.names) _ (safe_content t.names.work.now)) (λ i h. record { main = h.main; journal = h.journal })

pub shrinks_doubt : (n : Slot) (t : Tree) → Shrinks t (after (Doubt n) t)
shrinks_doubt Main t = shrinks_after (Doubt Main) t (with_main (slots_in t.names) _ (doubt_content t.names.main.now)) (λ i h. record { main = doubt_fewer t.names.main i.main h.main; journal = h.journal })
shrinks_doubt Journal t = shrinks_after (Doubt Journal) t (with_journal (slots_in t.names) _ (doubt_content t.names.journal.now)) (λ i h. record { main = h.main; journal = doubt_fewer t.names.journal i.journal h.journal })
shrinks_doubt Work t = shrinks_after (Doubt Work) t (with_work (slots_in t.names) _ (doubt_content t.names.work.now)) (λ i h. record { main = h.main; journal = h.journal })

pub shrinks_names : (t : Tree) → Shrinks t (after SyncNames t)
shrinks_names t = shrinks_after SyncNames t refl (λ i h. record { main = name_fewer t.names.main i.main h.main; journal = name_fewer t.names.journal i.journal h.journal })

pub shrunk_trans : (x y z : Option Tree) → On Shrinks x y → On Shrinks y z → On Shrinks x z
shrunk_trans x y z p q = on_then Shrinks Shrinks Shrinks shrinks_trans x y z p q

pub shrunk_synced : (n : Slot) (x y : Option Tree) → Synced n x y → On Shrinks x y
shrunk_synced n x y synced = ⊎_elim
    (λ same. on_same Shrinks shrinks_refl x y same)
    (λ did. ⊎_elim
    (λ safe. on_did Shrinks (SyncFile n) x y (λ t is needs. shrinks_file n t) safe)
    (λ lost. on_did Shrinks (Doubt n) x y (λ t is needs. shrinks_doubt n t) lost)
    did)
    synced

pub shrunk_names : (x y : Option Tree) → Did SyncNames x y → On Shrinks x y
shrunk_names x y did = on_did Shrinks SyncNames x y (λ t is needs. shrinks_names t) did

pub shrunk_unnamed : (x y : Option Tree) → Failed SyncNames x y → On Shrinks x y
shrunk_unnamed x y failed = on_failed Shrinks SyncNames x y shrinks_refl (λ k t is needs. shrinks_names t) failed

pub shrunk_unsynced : (n : Slot) (x y : Option Tree) → Failed (SyncFile n) x y → On Shrinks x y
shrunk_unsynced n x y failed = on_failed Shrinks (SyncFile n) x y shrinks_refl (λ k t is needs. shrinks_doubt n t) failed

pub shrunk_named : (r : Result Unit DepotFault) (x y : Option Tree) → Meets SyncNames x y r → On Shrinks x y
shrunk_named (Ok u) x y did = shrunk_names x y did
shrunk_named (Err e) x y failed = shrunk_unnamed x y failed
