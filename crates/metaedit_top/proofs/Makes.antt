-- A file that is made where none was, and its edit: what was found, what was made, and what the edit left.
use Rattle.std.proofs.Common.{◌≡◌, ℕ, ◌+◌, ◌≤◌, List, [], length, Bool, true, false, Option, Some, None, Result, Ok, Err, refl, sym, ap, ◌∙◌, subst, arith, cond, inl, inr, ⊎_elim}
use Rattle.std.specs.Prelude.{◌⊎◌, IsTrue, IsSome, IfOk, IfErr, is_some}
use Rattle.me_bytes.specs.Bytes.{IsBytes}
use Rattle.me_disk.specs.Causes.{Rose}
use Rattle.me_disk.specs.Disk.{Disk, Image, IsLawful, Leaves, Only, bytes_of, plain, read_as}
use Rattle.me_disk.specs.Holds.{Holds}
use Rattle.me_disk.specs.Steps.{OnlyWork, ReadsOnly}
use Rattle.me_disk.proofs.Runs.{KeepsImages-trans, Leaves-reads, Leaves-trans, Leaves-weaker, Only-keeps, ReadsOnly-refl, rose_sooner, same_image}
use Rattle.edit_journal.specs.Settled.{IsDamaged, Settles, SettlesAs, Stands}
use Rattle.recovery.specs.Recovered.{bytes_to_redo}
use Rattle.me_generate.specs.Makes.{IsNoneOr, Makes}
use Rattle.me_generate.specs.Makes as made_file
use Rattle.me_generate.specs.declared.making.MakeFault.{MakeFault}
use Rattle.me_generate.specs.declared.making.MakeFault.TheVariants as make
use Rattle.metaedit_top.specs.declared.outcome.Finished.{Finished}
use Rattle.metaedit_top.specs.declared.outcome.Stop.{Stop}
use Rattle.metaedit_top.specs.declared.outcome.Stop.TheVariants as stop
use Rattle.metaedit_top.specs.declared.words.Command.{Command}
use Rattle.metaedit_top.specs.declared.words.Command.TheVariants as command
use Rattle.metaedit_top.specs.declared.words.Request.{Request}
use Rattle.metaedit_top.specs.Asked.{edits_file, run_bytes}
use Rattle.metaedit_top.specs.Begun.{Begins, BeginsBy, HasMade, IsClear, IsUnmade, MakeLeaves, MakeStops, MakesFile, MayStandBy, OnBegun, StandsBy, StandsIn, StandsMade, bytes_before, made_of, stop_of_make}
use Rattle.metaedit_top.specs.Run.{AreBytes, HasRun, HasTold, IsEither, IsOneStop, MayLeave, OneImage, has_journal}
use Rattle.metaedit_top.specs.Stage.{ActLeaves, ActStops, Acts, HasActed, IsSettled}
use Rattle.metaedit_top.specs.Told.{Fixes, front_by, front_of, made_line}
use Rattle.metaedit_top.specs.Words.{makes_file}
use Rattle.metaedit_top.proofs.Acted.{one_plain, one_read, stands_on}

-- nothing stands for no file
settles_none : (m j : Option (List ℕ)) → m ≡ None → j ≡ None → SettlesAs m j None
settles_none None None x y = refl
settles_none None (Some j) x y = absurd cc
settles_none (Some m) j x y = absurd cc

is_none : (m j f : Option (List ℕ)) → m ≡ None → j ≡ None → SettlesAs m j f → f ≡ None
is_none None None f x y h = h
is_none None (Some j) f x y h = absurd cc
is_none (Some m) j f x y h = absurd cc

none_there : (m : Option (List ℕ)) → m ≡ None → IsSome m → ⊥
none_there None x h = absurd cc
none_there (Some m) x h = absurd cc

-- ---- calls that only read, before anything is made

module _ (q : Request) (a b : Disk) (lawful : IsLawful a) (reads : ReadsOnly a b) where
  -- a moment of them is the state at entry
  at_entry : OneImage a → (i : Image) → b.since a.clock i → i ≡ read_as a.slots
  at_entry one i h = one i (lawful.only_now i (reads.crash.since a.clock i (omega arith) h))

  pub still : OneImage a → (i : Image) → b.since a.clock i → MayStandBy q a i
  unfolding at_entry
  still one i h = λ tells f settles bytes. inl (subst (λ (j : Image). Settles f j) (sym (at_entry one i h)) settles)

  -- a file isn't made
  pub not_begun : (s t : Stop) → t ≡ s → MakeStops q a b s → MakeLeaves q a b s → MakesFile q a b (Err t)
  unfolding still
  not_begun s t is stops leaves = subst (λ (u : Stop). MakesFile q a b (Err u)) (sym is) (record {
    ends = tt;
    fixes = tt;
    stops = stops;
    leaves = leaves;
    crash = still;
    damaged = λ tells damaged. reads;
    there = λ tells there. reads;
    again_done = λ one. tt;
    again = λ one. one_for (one_read a b one reads) s;
    tells = reads.tells;
    later = reads.faults;
  })
    where
      one_for : OneImage b → (u : Stop) → IsOneStop u b
      one_for one stop.Depot = tt
      one_for one stop.NoFile = one
      one_for one stop.FileThere = one
      one_for one (stop.Damaged at) = one
      one_for one (stop.NotSupported w) = one
      one_for one (stop.RuleBroken w) = one
      one_for one (stop.TooLarge size limit) = one
      one_for one stop.Memory = one

-- ---- nothing was there

module _ (q : Request) (makes : makes_file q.command ≡ true) (bytes_made : IsBytes (made_of q)) (a b : Disk) (lawful_a : IsLawful a) (reads : ReadsOnly a b)
    (clear : IsTrue a.tells → IsClear a.slots) where
  none_stood : (f : Option (List ℕ)) → IsTrue a.tells → Settles f (read_as a.slots) → f ≡ None
  none_stood f tells settles = is_none a.slots.main a.slots.journal f (clear tells).main (clear tells).journal settles

  stands_for_none : IsTrue a.tells → Settles None (read_as a.slots)
  stands_for_none tells = settles_none a.slots.main a.slots.journal (clear tells).main (clear tells).journal

  read_as_none : IsTrue a.tells → read_as a.slots ≡ plain None
  read_as_none tells = same_image (read_as a.slots) (plain None) (clear tells).main (clear tells).journal

  only_none : OneImage a → Only (plain None) b
  unfolding read_as_none
  only_none one = λ i image.
      let before = reads.crash.images i image in
      one i before ∙ read_as_none (lawful_a.told i before)

  pub not_damaged : IsTrue a.tells → IsDamaged (read_as a.slots) → ReadsOnly a b
  unfolding stands_for_none
  not_damaged tells damaged = absurd (damaged None (stands_for_none tells))

  pub absent : IsTrue a.tells → IsSome a.slots.main → ⊥
  absent tells there = none_there a.slots.main (clear tells).main there

  -- what may be left of the made file, or of that edited
  made_may : (i : Image) → IsEither q (made_of q) i → (f : Option (List ℕ)) → f ≡ None → StandsBy q f i
  made_may i either f none =
      subst (λ (t : Bool). StandsIn t q f i) (sym makes) (subst (λ (g : Option (List ℕ)). StandsMade q g i) (sym none) either)

  none_or : (i : Image) → IsNoneOr (made_of q) i → MayStandBy q a i
  unfolding made_may none_stood read_as_none
  none_or i (inl is) = λ tells f settles bytes. inl (subst (λ (j : Image). Settles f j) (read_as_none tells ∙ sym is) settles)
  none_or i (inr is) = λ tells f settles bytes.
      inr (made_may i (inl (subst (λ (j : Image). Settles (Some (made_of q)) j) (sym is) refl)) f (none_stood f tells settles))

  -- ---- what making it came to

  module _ (c : Disk) (lawful_c : IsLawful c) (r : Result ℕ MakeFault) (made : Makes (made_of q) b c r) where
    same_tells : c.tells ≡ a.tells
    same_tells = made.tells ∙ reads.tells

    tells_b : IsTrue a.tells → IsTrue b.tells
    tells_b tells = subst IsTrue (sym reads.tells) tells

    making : OneImage a → IsTrue a.tells → Leaves (MayStandBy q a) b c
    unfolding tells_b none_or only_none
    making one tells = Leaves-weaker (IsNoneOr (made_of q)) (MayStandBy q a) b c none_or (made.leaves (tells_b tells) (only_none one))

    made_moment : OneImage a → (i : Image) → c.since a.clock i → MayStandBy q a i
    unfolding making
    made_moment one i h = λ tells f settles bytes.
        ⊎_elim (λ before. still q a b lawful_a reads one i before tells f settles bytes) (λ may. may tells f settles bytes) ((making one tells).each a.clock i reads.crash.clock h)

    later_c : a.faults ≤ c.faults
    later_c = let x = reads.faults in let y = made.faults in omega (arith, x, y)

    make_stops : (fault : MakeFault) → r ≡ Err fault → MakeStops q a c (stop_of_make fault)
    make_stops make.Depot is = rose_sooner a.faults b.faults c.faults reads.faults (made.cause is)
    make_stops make.Memory is = tt

    make_leaves : (fault : MakeFault) → r ≡ Err fault → MakeLeaves q a c (stop_of_make fault)
    make_leaves make.Depot is = λ tells. let most = made.most in let before = reads.written in omega (arith, most, before)
    make_leaves make.Memory is =
        let only = made.memory is in
        inl (record {
          only = record {
            faults = let x = reads.faults in let y = only.faults in omega (arith, x, y);
            tells = only.tells ∙ reads.tells;
            main = only.main ∙ reads.main;
            journal = only.journal ∙ reads.journal;
            crash = KeepsImages-trans a b c reads.crash only.crash;
          };
          written = let most = made.most in let before = reads.written in omega (arith, most, before);
        })

    make_again : OneImage a → (fault : MakeFault) → r ≡ Err fault → IsOneStop (stop_of_make fault) c
    make_again one make.Depot is = tt
    make_again one make.Memory is =
        let only = made.memory is in
        λ i image.
        one i (reads.crash.images i (only.crash.images i image))
        ∙ same_image (read_as a.slots) (read_as c.slots) (sym (only.main ∙ reads.main)) (sym (only.journal ∙ reads.journal))

    pub not_made : (fault : MakeFault) (s : Stop) → s ≡ stop_of_make fault → r ≡ Err fault → MakesFile q a c (Err s)
    unfolding make_stops make_leaves make_again made_moment same_tells later_c absent stands_for_none
    not_made fault s told is = subst (λ (u : Stop). MakesFile q a c (Err u)) (sym told) (record {
      ends = tt;
      fixes = tt;
      stops = make_stops fault is;
      leaves = make_leaves fault is;
      crash = made_moment;
      damaged = λ tells damaged. absurd (damaged None (stands_for_none tells));
      there = λ tells there. absurd (absent tells there);
      again_done = λ one. tt;
      again = λ one. make_again one fault is;
      tells = same_tells;
      later = later_c;
    })

    -- ---- it stands there

    module _ (stands : made_file.Stands (made_of q) b c) (wrote : c.written ≡ b.written + length (made_of q)) where
      main_c : IsTrue a.tells → c.slots.main ≡ Some (made_of q)
      unfolding tells_b
      main_c tells = stands.main (tells_b tells)

      holds_c : IsTrue a.tells → Holds c (made_of q)
      unfolding main_c same_tells
      holds_c tells = record { tells = subst IsTrue (sym same_tells) tells; bytes = ap bytes_of (main_c tells) }

      back : IsTrue c.tells → IsTrue a.tells
      unfolding same_tells
      back tells = subst IsTrue same_tells tells

      stands_c : Stands (made_of q) c
      unfolding main_c back
      stands_c = record {
        main = λ tells. main_c (back tells);
        journal = λ tells. stands.journal ∙ reads.journal ∙ (clear (back tells)).journal;
        state = stands.state;
      }

      -- where there was one image, there is one again
      one_c : OneImage a → OneImage c
      unfolding stands_c back tells_b only_none
      one_c one =
          one_plain (made_of q) c lawful_c stands_c
          (λ i image. stands.sure (tells_b (back (lawful_c.told i image))) (only_none one) i image)

      pub settled_c : IsSettled c
      unfolding stands_c main_c back tells_b
      settled_c = record {
        stands = record {
          main = λ tells. stands_c.main tells ∙ ap Some (sym (ap bytes_of (main_c (back tells))));
          journal = stands_c.journal;
          state = stands_c.state;
        };
        no_work = λ tells. stands.work (tells_b (back tells));
      }

      -- ---- and its edit

      module _ (d : Disk) where
        has_made : ReadsOnly c d → HasMade (made_of q) a d
        unfolding stands_c tells_b
        has_made kept = record {
          stands = stands_on (made_of q) c d kept stands_c;
          no_work = λ tells. kept.work ∙ stands.work (tells_b tells);
          written = let x = kept.written in let y = reads.written in omega (arith, x, wrote, y);
        }

        edit_stops : (s : Stop) → a.faults ≤ c.faults → ActStops q c d s → MakeStops q a d s
        unfolding holds_c
        edit_stops stop.Depot after h = rose_sooner a.faults c.faults d.faults after h
        edit_stops stop.NoFile after h = absurd h
        edit_stops stop.FileThere after h = absurd h
        edit_stops (stop.Damaged at) after h = absurd h
        edit_stops (stop.NotSupported w) after h = λ tells. (clear tells, h.1 (made_of q) (holds_c tells))
        edit_stops (stop.RuleBroken w) after h = λ tells. (clear tells, h.1 (made_of q) (holds_c tells))
        edit_stops (stop.TooLarge size limit) after h = λ tells. (clear tells, h.1 (made_of q) (holds_c tells) bytes_made)
        edit_stops stop.Memory after h = tt

        edit_leaves : (s : Stop) → ActStops q c d s → ActLeaves q c d s → MakeLeaves q a d s
        unfolding holds_c has_made
        edit_leaves stop.Depot why h = λ tells.
            let most = h (made_of q) (holds_c tells) bytes_made in
            let before = reads.written in
            omega (arith, most, wrote, before)
        edit_leaves stop.NoFile why h = absurd why
        edit_leaves stop.FileThere why h = absurd why
        edit_leaves (stop.Damaged at) why h = absurd why
        edit_leaves (stop.NotSupported w) why h = has_made h
        edit_leaves (stop.RuleBroken w) why h = has_made h
        edit_leaves (stop.TooLarge size limit) why h = has_made h
        edit_leaves stop.Memory why h = inr (has_made h)

        edit_again : OneImage c → (s : Stop) → ActLeaves q c d s → IsOneStop s d
        edit_again one stop.Depot h = tt
        edit_again one stop.NoFile h = one_read c d one h
        edit_again one stop.FileThere h = one_read c d one h
        edit_again one (stop.Damaged at) h = one_read c d one h
        edit_again one (stop.NotSupported w) h = one_read c d one h
        edit_again one (stop.RuleBroken w) h = one_read c d one h
        edit_again one (stop.TooLarge size limit) h = one_read c d one h
        edit_again one stop.Memory h = one_read c d one h

        moment : (OneImage c → Leaves (MayLeave q c) c d) → OneImage a → (i : Image) → d.since a.clock i → MayStandBy q a i
        unfolding made_moment making holds_c made_may none_stood one_c
        moment act one i h = λ tells f settles bytes.
            let clocks : a.clock ≤ c.clock = let x = reads.crash.clock in let y = (making one tells).clock in omega (arith, x, y) in
            ⊎_elim (λ before. made_moment one i before tells f settles bytes)
            (λ may. inr (made_may i (may (made_of q) (holds_c tells) bytes_made) f (none_stood f tells settles))) ((act (one_c one)).each a.clock i clocks h)

        after : c.faults ≤ d.faults → a.faults ≤ d.faults
        unfolding later_c
        after more = let x = later_c in omega (arith, x, more)

        ran : (f : Finished) → (stood : Bool) → stood ≡ false → ((o : List ℕ) → Holds c o → IsBytes o → HasActed q o stood c d f)
            → OnBegun q a (λ o. IsBytes o → HasRun q o (bytes_before q a o) a d × HasTold q o (has_journal a) f)
        unfolding stands_for_none holds_c
        ran f stood none acts = λ tells. (
          made_of q,
          subst (λ (t : Bool). BeginsBy t q (read_as a.slots) (made_of q)) (sym makes) (stands_for_none tells, refl),
          λ bytes.
              let x = acts (made_of q) (holds_c tells) bytes in
              let before : bytes_before q a (made_of q) ≡ length (made_of q) = ap (λ (t : Bool). cond t (length (made_of q)) (bytes_to_redo (read_as a.slots))) makes in
              let journal : has_journal a ≡ false = ap is_some (clear tells).journal in (
                record {
                  accepts = x.run.accepts;
                  stands = x.run.stands;
                  no_work = x.run.no_work;
                  edited = x.run.edited;
                  written = let w = x.run.written in let y = reads.written in omega (arith, w, wrote, y, before);
                },
                subst (λ (t : Bool). HasTold q (made_of q) t f) (none ∙ sym journal) x.told,
              ),
        )

        pub edited : (r : Result Finished Stop) → Acts q false c d r → MakesFile q a d r
        unfolding ran moment after edit_stops edit_leaves edit_again same_tells later_c absent stands_for_none one_c
        edited (Ok f) acts = record {
          ends = ran f false refl acts.acts;
          fixes = acts.fixes;
          stops = tt;
          leaves = tt;
          crash = moment acts.crash;
          damaged = λ tells damaged. absurd (damaged None (stands_for_none tells));
          there = λ tells there. absurd (absent tells there);
          again_done = λ one. acts.again (one_c one);
          again = λ one. tt;
          tells = acts.tells ∙ same_tells;
          later = after acts.later;
        }
        edited (Err s) acts = record {
          ends = tt;
          fixes = tt;
          stops = edit_stops s later_c acts.stops;
          leaves = edit_leaves s acts.stops acts.leaves;
          crash = moment acts.crash;
          damaged = λ tells damaged. absurd (damaged None (stands_for_none tells));
          there = λ tells there. absurd (absent tells there);
          again_done = λ one. tt;
          again = λ one. edit_again (one_c one) s acts.leaves;
          tells = acts.tells ∙ same_tells;
          later = after acts.later;
        }

-- ---- a command that makes a file

-- it edits it
pub makes_edits : (q : Request) → makes_file q.command ≡ true → edits_file q.command ≡ true
makes_edits q makes = go q.command makes
  where
    go : (c : Command) → makes_file c ≡ true → edits_file c ≡ true
    go command.Make is = refl
    go command.Set is = refl
    go command.Apply is = refl
    go command.Recover is = absurd cc
    go command.Show is = absurd cc
    go command.Validate is = absurd cc
    go command.Md5 is = absurd cc
    go command.Export is = absurd cc

-- and tells that it was made
pub made_front : (q : Request) → makes_file q.command ≡ true → (o : List ℕ) → front_of q o ≡ made_line q.kind q.n (length o)
made_front q makes o = go q.command makes
  where
    go : (c : Command) → makes_file c ≡ true → front_by c q o ≡ made_line q.kind q.n (length o)
    go command.Make is = refl
    go command.Set is = absurd cc
    go command.Apply is = absurd cc
    go command.Recover is = absurd cc
    go command.Show is = absurd cc
    go command.Validate is = absurd cc
    go command.Md5 is = absurd cc
    go command.Export is = absurd cc

-- nothing is told before the line of a command that makes none
pub no_front : (q : Request) → makes_file q.command ≡ false → (o : List ℕ) → [] ≡ front_of q o
no_front q there o = go q.command there
  where
    go : (c : Command) → makes_file c ≡ false → [] ≡ front_by c q o
    go command.Make is = absurd cc
    go command.Set is = refl
    go command.Apply is = refl
    go command.Recover is = refl
    go command.Show is = refl
    go command.Validate is = refl
    go command.Md5 is = refl
    go command.Export is = refl

-- the line of what was made is told of the file that stands there
pub front_told : (q : Request) → makes_file q.command ≡ true → (c : Disk) (line : List ℕ) (len : ℕ) → line ≡ made_line q.kind q.n len → len ≡ length (made_of q)
    → (IsTrue c.tells → c.slots.main ≡ Some (made_of q)) → (o : List ℕ) → Holds c o → line ≡ front_of q o
unfolding made_front
front_told q makes c line len is long main o held =
    let same : made_of q ≡ o = sym (ap bytes_of (main held.tells)) ∙ held.bytes in
    is ∙ ap (made_line q.kind q.n) (long ∙ ap (λ (x : List ℕ). length x) same) ∙ sym (made_front q makes o)
