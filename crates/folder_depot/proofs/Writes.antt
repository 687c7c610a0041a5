-- `Main` is written in place.
use Rattle.std.proofs.Common.{◌≡◌, inl, inr, ⊎_elim, ℕ, ◌≤◌, List, length, refl, ap, subst, arith, length-take}
use Rattle.std.specs.Prelude.{Option, Some, None, option_map, is_some, IsSome, IsTrue, Result, Ok, Err, OnOk, take}
use Rattle.std.proofs.lemmas.Bool.{false≢true}
use Rattle.me_bytes.specs.Bytes.{overlay}
use Rattle.me_disk.specs.declared.depot.DepotFault.{DepotFault}
use Rattle.me_disk.specs.declared.depot.Slot.TheVariants.{Main}
use Rattle.me_disk.specs.Disk.{Image, Slots, bytes_of}
use Rattle.me_disk.specs.Calls.{Crash, OnBoth, TornBytes, CutBytes}
use Rattle.me_disk.specs.Calls.Call.{WriteMain, SetMainLen}
use Rattle.me_disk.proofs.Does.{OnBoth-refl, CutBytes-refl}
use Rattle.me_disk.proofs.Runs.{TornBytes-refl}
use Rattle.me_folder.specs.Files.{File, Change, Wrote, Resized, content, wrote, resized, with_change, MayChange}
use Rattle.me_folder.specs.Tree.{Tree, held_by, slots_in, FileLeaves, CutLeaves}
use Rattle.me_folder.specs.Ops.{WriteAt, Resize, after, Did, Failed}
use Rattle.me_folder.specs.Told.{slots_of}
use Rattle.me_folder.proofs.Bytes.{TornBytes-more, changed-inside, changed-cut}
use Rattle.folder_depot.specs.Moves.{On, Moves, Makes, Shrinks}
use Rattle.folder_depot.proofs.Kept.{on_ok}
use Rattle.folder_depot.proofs.Trees.{goes_after, goes_nowhere, on_did, on_failed}
use Rattle.folder_depot.proofs.Makes.{partly_refl, partly_fails, shrunk_makes, shrunk_told}

-- what a power cut leaves of a changed file comes from what one before left
pub change_leaves : (c : Change) (f : Option File) (m : Option (List ℕ)) → FileLeaves (option_map (with_change c) f) m → (o : Option (List ℕ)) × FileLeaves f o × OnBoth (MayChange c) o m
change_leaves c None None h = (None, tt, tt)
change_leaves c None (Some l) h = absurd h
change_leaves c (Some f) None h = absurd h
change_leaves c (Some f) (Some l) h = (Some h.0, h.1, h.2)

OnBoth-map : (R S : List ℕ → List ℕ → Type 0) → ((a b : List ℕ) → R a b → S a b) → (m n : Option (List ℕ)) → OnBoth R m n → OnBoth S m n
OnBoth-map R S f None None h = tt
OnBoth-map R S f None (Some l) h = h
OnBoth-map R S f (Some l) None h = h
OnBoth-map R S f (Some a) (Some b) h = f a b h

write_held : (at : ℕ) (bytes : List ℕ) (f : Option File) → IsSome (option_map content f) → at ≤ length (bytes_of (option_map content f))
    → option_map content (option_map (wrote at bytes) f) ≡ Some (overlay at bytes (bytes_of (option_map content f)))
write_held at bytes None there h = absurd (false≢true there)
write_held at bytes (Some f) there h = ap Some (changed-inside at bytes (content f) h)

cut_held : (n : ℕ) (f : Option File) → IsSome (option_map content f) → n ≤ length (bytes_of (option_map content f))
    → option_map content (option_map (resized n) f) ≡ Some (take n (bytes_of (option_map content f)))
cut_held n None there h = absurd (false≢true there)
cut_held n (Some f) there h = ap Some (changed-cut n (content f) h)

-- each image comes from one before
write_images : (at : ℕ) (bytes b : List ℕ) (t : Tree) (r : Result Unit DepotFault) → length b ≤ length bytes → (i : Image) → CutLeaves (after (WriteAt Main at b) t).names i
    → (j : Image) × CutLeaves t.names j × Crash (WriteMain at bytes) (slots_in t.names) r j i
write_images at bytes b t r few i h = ⊎_elim
    (λ now. let from = change_leaves (Wrote at b) t.names.main.now i.main now in (
      record { main = from.0; journal = i.journal },
      record { main = inl from.1; journal = h.journal },
      record { main = OnBoth-map _ _ (λ x y torn. TornBytes-more at (length b) (length bytes) x y few torn) from.0 i.main from.2; journal = refl },
    ))
    (λ old. (
      i,
      record { main = inr old; journal = h.journal },
      record { main = OnBoth-refl (TornBytes at (length bytes)) (TornBytes-refl at (length bytes)) i.main; journal = refl },
    ))
    h.main

write_moves : (at : ℕ) (bytes b : List ℕ) (t : Tree) (r : Result Unit DepotFault) → length b ≤ length bytes
    → OnOk r (held_by (after (WriteAt Main at b) t).names.main ≡ Some (overlay at bytes (bytes_of (held_by t.names.main))))
    → Moves (WriteMain at bytes) r t (after (WriteAt Main at b) t)
write_moves at bytes b t r few held = record {
  main = held;
  journal = on_ok r refl;
  work = on_ok r refl;
  main_stays = tt;
  journal_stays = refl;
  work_stays = refl;
  images = write_images at bytes b t r few;
  goes = goes_after _ (WriteAt Main at b) t t (goes_nowhere _ t) (λ i h. inr (write_images at bytes b t (Ok tt) few i h));
  quiet = λ f f' w w' s s'. tt;
  sure = λ f w s. on_ok r tt;
}

cut_images : (n : ℕ) (t : Tree) (r : Result Unit DepotFault) (i : Image) → CutLeaves (after (Resize Main n) t).names i
    → (j : Image) × CutLeaves t.names j × Crash (SetMainLen n) (slots_in t.names) r j i
cut_images n t r i h = ⊎_elim
    (λ now. let from = change_leaves (Resized n) t.names.main.now i.main now in (
      record { main = from.0; journal = i.journal },
      record { main = inl from.1; journal = h.journal },
      record { main = from.2; journal = refl },
    ))
    (λ old. (i, record { main = inr old; journal = h.journal }, record { main = OnBoth-refl (CutBytes n) (CutBytes-refl n) i.main; journal = refl }))
    h.main

cut_moves : (n : ℕ) (t : Tree) (r : Result Unit DepotFault)
    → OnOk r (held_by (after (Resize Main n) t).names.main ≡ Some (take n (bytes_of (held_by t.names.main))))
    → Moves (SetMainLen n) r t (after (Resize Main n) t)
cut_moves n t r held = record {
  main = held;
  journal = on_ok r refl;
  work = on_ok r refl;
  main_stays = tt;
  journal_stays = refl;
  work_stays = refl;
  images = cut_images n t r;
  goes = goes_after _ (Resize Main n) t t (goes_nowhere _ t) (λ i h. inr (cut_images n t (Ok tt) i h));
  quiet = λ f f' w w' s s'. tt;
  sure = λ f w s. on_ok r tt;
}

-- a place in `Main`
abbrev IsIn : ℕ → Slots → Type 0
IsIn at s = IsSome s.main × (at ≤ length (bytes_of s.main))

-- ---- after the names were settled

pub write_makes : (at : ℕ) (bytes : List ℕ) (u : Unit {0}) (x y z : Option Tree) → (IsTrue (is_some x) → IsSome (slots_of x).main × (at ≤ length (bytes_of (slots_of x).main)))
    → On Shrinks x y → Did (WriteAt Main at bytes) y z → Makes (WriteMain at bytes) x z (Ok u)
write_makes at bytes u x y z allows shrunk did = shrunk_makes (WriteMain at bytes) (Ok u) tt x y z shrunk
    (on_did (Moves (WriteMain at bytes) (Ok u)) (WriteAt Main at bytes) y z
    (λ t is needs.
    let here : IsIn at (slots_in t.names) = subst (λ (o : Option Tree). IsTrue (is_some o) → IsIn at (slots_of o)) is (shrunk_told (IsIn at) x y shrunk allows) refl in
    write_moves at bytes bytes t (Ok u) (omega arith) (write_held at bytes t.names.main.now here.0 here.1)) did)

pub write_fails : (at : ℕ) (bytes : List ℕ) (e : DepotFault) (x y z : Option Tree) → On Shrinks x y → Failed (WriteAt Main at bytes) y z → Makes (WriteMain at bytes) x z (Err e)
write_fails at bytes e x y z shrunk failed = shrunk_makes (WriteMain at bytes) (Err e) tt x y z shrunk
    (on_failed (Moves (WriteMain at bytes) (Err e)) (WriteAt Main at bytes) y z (λ t. partly_fails (WriteMain at bytes) e tt t t (partly_refl (WriteMain at bytes) t))
    (λ k t is needs. write_moves at bytes (take k bytes) t (Err e) (omega (arith, length-take k bytes)) tt) failed)

pub cut_makes : (n : ℕ) (u : Unit {0}) (x y z : Option Tree) → (IsTrue (is_some x) → IsSome (slots_of x).main × (n ≤ length (bytes_of (slots_of x).main)))
    → On Shrinks x y → Did (Resize Main n) y z → Makes (SetMainLen n) x z (Ok u)
cut_makes n u x y z allows shrunk did = shrunk_makes (SetMainLen n) (Ok u) tt x y z shrunk
    (on_did (Moves (SetMainLen n) (Ok u)) (Resize Main n) y z
    (λ t is needs.
    let here : IsIn n (slots_in t.names) = subst (λ (o : Option Tree). IsTrue (is_some o) → IsIn n (slots_of o)) is (shrunk_told (IsIn n) x y shrunk allows) refl in
    cut_moves n t (Ok u) (cut_held n t.names.main.now here.0 here.1)) did)

pub cut_fails : (n : ℕ) (e : DepotFault) (x y z : Option Tree) → On Shrinks x y → Failed (Resize Main n) y z → Makes (SetMainLen n) x z (Err e)
cut_fails n e x y z shrunk failed = shrunk_makes (SetMainLen n) (Err e) tt x y z shrunk
    (on_failed (Moves (SetMainLen n) (Err e)) (Resize Main n) y z (λ t. partly_fails (SetMainLen n) e tt t t (partly_refl (SetMainLen n) t))
    (λ k t is needs. cut_moves n t (Err e) tt) failed)
