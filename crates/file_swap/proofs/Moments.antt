-- One call takes a depot from moment to moment.
use Rattle.std.proofs.Common.{◌≡◌, ◌⊎◌, inl, inr, ℕ, ◌+◌, ◌≤◌, ◌<◌, ◌^◌, min, List, length, Some, None, sym, ◌∙◌, ap, subst}
use Rattle.std.specs.Prelude.{IsTrue, IsSome, Result, Ok}
use Rattle.std.specs.declared.option.Option.{Option}
use Rattle.me_disk.specs.declared.depot.DepotFault.{DepotFault}
use Rattle.part_tree.specs.declared.plan.Plan.{Plan}
use Rattle.part_tree.specs.declared.plan.Plan.TheVariants.{InPlace, Rewrite}
use Rattle.me_disk.specs.Disk.{Image, Slots, Disk, IsLawful, Leaves, plain, bytes_of}
use Rattle.me_disk.specs.Calls.{Call, Crash, state_at_ok, OnBoth, TornBytes, CutBytes, MainBecomes, JournalBecomes, Allows}
use Rattle.me_disk.specs.Calls.Call.{BeginWork, AppendWork, SyncWork, DropWork, InstallMain, InstallJournal, WriteMain, SetMainLen, SyncMain, DropJournal}
use Rattle.me_disk.specs.Steps.{Does, ReadsOnly}
use Rattle.me_disk.proofs.Runs.{Leaves-does, slots_ok, same_image, same_slots}
use Rattle.edit_journal.proofs.Laid.{Torn-write, Torn-cut}
use Rattle.part_tree.specs.Plans.{applied}
use Rattle.file_swap.specs.Midway.Region.{Old, Laying, Laid}
use Rattle.file_swap.specs.Midway.{Region, Moment, At, IsIn, IsJournal, IsTorn, HasJournal, called, region_after}
use Rattle.file_swap.specs.Fits.{FitsCall, InPatches, StaysLong}

module _ (p : Plan) (o : List ℕ) where
  -- ---- torn files

  write_torn : (q : Plan) (at n : ℕ) (m m' : Option (List ℕ)) → InPatches q at n → OnBoth (TornBytes at n) m m' → IsTorn q o m → IsTorn q o m'
  write_torn (InPlace old new ps) at n (Some m) (Some m') inside step torn = Torn-write ps (min old new) at n o m m' inside torn step
  write_torn (InPlace old new ps) at n (Some m) None inside step torn = absurd step
  write_torn (InPlace old new ps) at n None m' inside step torn = absurd torn
  write_torn (Rewrite new moves segments) at n m m' inside step torn = absurd torn

  cut_torn : (q : Plan) (n : ℕ) (m m' : Option (List ℕ)) → StaysLong q n → OnBoth (CutBytes n) m m' → IsTorn q o m → IsTorn q o m'
  cut_torn (InPlace old new ps) n (Some m) (Some m') low step torn = Torn-cut ps (min old new) n o m m' low torn step
  cut_torn (InPlace old new ps) n (Some m) None low step torn = absurd step
  cut_torn (InPlace old new ps) n None m' low step torn = absurd torn
  cut_torn (Rewrite new moves segments) n m m' low step torn = absurd torn

  module _ (m : Moment) (old new : Disk) (at : At m old) where
    -- ---- the whole call

    pub at_next : (c : Call) (x : Unit {0}) → Does c old new (Ok x) → At (called c m) new
    at_next c x does = record {
      state = does.state ∙ ap (state_at_ok c) at.state;
      slots = λ tells. let before = sym does.tells ∙ tells in slots_ok c old new m.slots x does before (at.slots before);
    }

    pub allows : (c : Call) → FitsCall p o c m → Allows c old
    allows BeginWork fits = tt
    allows (AppendWork b) fits = (at.state ∙ fits.0, λ tells. subst (λ (s : Slots). length (bytes_of s.work) + length b < 2 ^ 63) (sym (at.slots tells)) fits.1)
    allows SyncWork fits = at.state ∙ fits
    allows DropWork fits = absurd fits
    allows InstallMain fits = at.state ∙ fits.0
    allows InstallJournal fits = at.state ∙ fits.0
    allows (WriteMain place b) fits = λ tells. subst (λ (s : Slots). IsSome s.main × (place ≤ length (bytes_of s.main))) (sym (at.slots tells)) (fits.1, fits.2)
    allows (SetMainLen n) fits = λ tells. subst (λ (s : Slots). IsSome s.main × (n ≤ length (bytes_of s.main))) (sym (at.slots tells)) (fits.1, fits.2)
    allows SyncMain fits = tt
    allows DropJournal fits = tt

    -- a read keeps the moment
    pub at_read : ReadsOnly old new → (held : List ℕ) → At (record { slots = m.slots; state = m.state; region = m.region; held = held }) new
    at_read reads held = record {
      state = reads.work_state ∙ at.state;
      slots = λ tells. same_slots new.slots old.slots reads.main reads.journal reads.work ∙ at.slots (sym reads.tells ∙ tells);
    }

    -- ---- the images of a call

    module _ (lawful : IsLawful old) (sure : (i : Image) → old.images i → IsIn m.region p o i) where
      told : (j : Image) → old.images j → IsTrue old.tells
      told j h = lawful.told j h

      kept : (i j : Image) → i ≡ j → old.images j → IsIn m.region p o i
      kept i j same h = subst (IsIn m.region p o) (sym same) (sure j h)

      -- an image of this region, which is known
      seen : (r : Region) → m.region ≡ r → (j : Image) → old.images j → IsIn r p o j
      seen r is j h = subst (λ (x : Region). IsIn x p o j) is (sure j h)

      back : (r : Region) → m.region ≡ r → (i : Image) → IsIn r p o i → IsIn m.region p o i
      back r is i h = subst (λ (x : Region). IsIn x p o i) (sym is) h

      work_is : (j : Image) → old.images j → old.slots.work ≡ m.slots.work
      work_is j h = ap (λ (s : Slots). s.work) (at.slots (told j h))

      install_main : (i j : Image) → old.images j → FitsCall p o InstallMain m → MainBecomes (λ _ n. n ≡ old.slots.work) j i → i ≡ plain (Some (applied p o))
      install_main i j h fits step =
          let was = seen Old fits.1 j h in
          same_image i (plain (Some (applied p o))) (step.main ∙ work_is j h ∙ fits.2) (step.journal ∙ ap (λ (x : Image). x.journal) was)

      install_journal : (i j : Image) → old.images j → FitsCall p o InstallJournal m → JournalBecomes old.slots.work j i → HasJournal p (IsTorn p o) i
      install_journal i j h fits step =
          let was = seen Old fits.1 j h in
          record {
            journal = subst (IsJournal p) (sym (step.journal ∙ work_is j h)) fits.2;
            main = subst (IsTorn p o) (sym (step.main ∙ ap (λ (x : Image). x.main) was)) fits.3;
          }

      write_main : (place n : ℕ) (i j : Image) → old.images j → m.region ≡ Laying → InPatches p place n → MainBecomes (OnBoth (TornBytes place n)) j i → IsIn m.region p o i
      write_main place n i j h is inside step =
          let was = seen Laying is j h in
          back Laying is i (record { journal = subst (IsJournal p) (sym step.journal) was.journal; main = write_torn p place n j.main i.main inside step.main was.main })

      set_len : (n : ℕ) (i j : Image) → old.images j → m.region ≡ Laying → StaysLong p n → MainBecomes (OnBoth (CutBytes n)) j i → IsIn m.region p o i
      set_len n i j h is low step =
          let was = seen Laying is j h in
          back Laying is i (record { journal = subst (IsJournal p) (sym step.journal) was.journal; main = cut_torn p n j.main i.main low step.main was.main })

      drop_journal : (i j : Image) → old.images j → m.region ≡ Laid → JournalBecomes None j i → i ≡ plain (Some (applied p o))
      drop_journal i j h is step =
          let was = seen Laid is j h in same_image i (plain (Some (applied p o))) (step.main ∙ was.main) step.journal

      -- an image from before, after the whole call
      after_call : (c : Call) → FitsCall p o c m → (i j : Image) → old.images j → Crash c old.slots (Ok tt) j i
          → IsIn m.region p o i ⊎ IsIn (region_after c m.region) p o i
      after_call BeginWork fits i j h step = inl (kept i j step h)
      after_call (AppendWork b) fits i j h step = inl (kept i j step h)
      after_call SyncWork fits i j h step = inl (kept i j step h)
      after_call DropWork fits i j h step = inl (kept i j step h)
      after_call InstallMain fits i j h step = inr (install_main i j h fits step)
      after_call InstallJournal fits i j h step = inr (install_journal i j h fits step)
      after_call (WriteMain place b) fits i j h step = let f = fits in inl (write_main place (length b) i j h f.0 f.3 step)
      after_call (SetMainLen n) fits i j h step = let f = fits in inl (set_len n i j h f.0 f.3 step)
      after_call SyncMain fits i j h step = inl (kept i j step h)
      after_call DropJournal fits i j h step = inr (drop_journal i j h fits step)

      -- at Ok
      pub images_ok : (c : Call) (x : Unit {0}) → FitsCall p o c m → Does c old new (Ok x) → (i : Image) → new.images i → IsIn (region_after c m.region) p o i
      images_ok BeginWork x fits does i h = let from = does.crash.images i h in kept i from.0 from.2 from.1
      images_ok (AppendWork b) x fits does i h = let from = does.crash.images i h in kept i from.0 from.2 from.1
      images_ok SyncWork x fits does i h = let from = does.crash.images i h in kept i from.0 from.2 from.1
      images_ok DropWork x fits does i h = let from = does.crash.images i h in kept i from.0 from.2 from.1
      images_ok InstallMain x fits does i h = let from = does.crash.images i h in install_main i from.0 from.1 fits from.2
      images_ok InstallJournal x fits does i h = let from = does.crash.images i h in install_journal i from.0 from.1 fits from.2
      images_ok (WriteMain place b) x fits does i h =
          let from = does.crash.images i h in
          let f = fits in write_main place (length b) i from.0 from.1 f.0 f.3 from.2
      images_ok (SetMainLen n) x fits does i h =
          let from = does.crash.images i h in
          let f = fits in set_len n i from.0 from.1 f.0 f.3 from.2
      images_ok SyncMain x fits does i h =
          let from = does.crash.images i h in
          let tells = told from.0 from.1 in
          let f = fits in
          let was = seen Laying f.0 from.0 from.1 in
          record {
            journal = subst (IsJournal p) (sym (ap (λ (y : Image). y.journal) from.2)) was.journal;
            main = ap (λ (y : Image). y.main) (does.sure i h) ∙ does.main tells ∙ ap (λ (s : Slots). s.main) (at.slots tells) ∙ f.1;
          }
      images_ok DropJournal x fits does i h = let from = does.crash.images i h in drop_journal i from.0 from.1 fits from.2

      pub call_leaves : (c : Call) (r : Result Unit DepotFault) → FitsCall p o c m → Does c old new r
          → Leaves (λ i. IsIn m.region p o i ⊎ IsIn (region_after c m.region) p o i) old new
      call_leaves c r fits does = Leaves-does (λ i. IsIn m.region p o i ⊎ IsIn (region_after c m.region) p o i) c old new r does (λ i j h step. after_call c fits i j h step)
