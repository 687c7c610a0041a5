-- What is ready for an edit, and what carrying it out comes to for the file that stood there.
use Rattle.std.proofs.Common.{◌≡◌, ℕ, ◌+◌, ◌≤◌, ◌<◌, List, [], ◌∷◌, length, Bool, true, false, not, ◌&&◌, Option, Some, None, Result, Ok, Err, refl, sym, ap, ◌∙◌, subst, arith, cond, inl, inr, ⊎_elim}
use Rattle.std.specs.Prelude.{IsTrue, IfOk, ◌==◌}
use Rattle.std.proofs.lemmas.Bool.{eqb-true}
use Rattle.me_bytes.specs.Bytes.{IsBytes}
use Rattle.me_disk.specs.Causes.{Rose}
use Rattle.me_disk.specs.Disk.{Disk, Image, bytes_of}
use Rattle.me_disk.specs.Holds.{Holds}
use Rattle.me_disk.specs.Steps.{ReadsOnly}
use Rattle.me_disk.proofs.Holds.{holds_on}
use Rattle.me_disk.proofs.Runs.{rose_sooner, ReadsOnly-trans}
use Rattle.part_tree.specs.declared.field.Broken.{Broken}
use Rattle.part_tree.specs.declared.field.EditItem.{EditItem}
use Rattle.part_tree.specs.declared.field.RuleSet.{RuleSet}
use Rattle.part_tree.specs.declared.field.RuleSet.TheVariants.{Base}
use Rattle.part_tree.specs.declared.fields.Entry.{Entry}
use Rattle.part_tree.specs.declared.names.Kind.{Kind}
use Rattle.part_tree.specs.Fields.{values}
use Rattle.part_tree.specs.declared.plan.Patch.{Patch}
use Rattle.part_tree.specs.declared.plan.Plan.{Plan}
use Rattle.part_tree.specs.declared.plan.Plan.TheVariants.{InPlace, Rewrite}
use Rattle.part_tree.specs.declared.plan.PlanFault.{PlanFault}
use Rattle.part_tree.specs.declared.plan.PlanFault.TheVariants as plan
use Rattle.part_tree.specs.declared.why.ReadFault.{ReadFault}
use Rattle.part_tree.specs.declared.why.ReadFault.TheVariants as read
use Rattle.part_tree.specs.Plans.{Belongs, CanRun, applied}
use Rattle.edit_journal.specs.Journal.{bytes_in_place}
use Rattle.edit_journal.specs.Settled.{Settles, Stands}
use Rattle.field_model.specs.Broken.{broken}
use Rattle.field_model.specs.Fields.{FieldMap}
use Rattle.field_model.specs.Kind.{Edited, SameEdit}
use Rattle.field_model.specs.KindReads.{Declines, IsForm, IsPlanOf, Refuses}
use Rattle.field_model.specs.Update.{effective}
use Rattle.field_model.proofs.Effective.{all_effective}
use Rattle.file_swap.specs.Midway.{SettlesEither}
use Rattle.file_swap.specs.Steps.{bytes_by, bytes_written}
use Rattle.file_swap.specs.Swap.{Swapping, fresh}
use Rattle.me_report.specs.declared.line.Summary.{Summary}
use Rattle.me_report.specs.Done.{done_line}
use Rattle.edit_planner.specs.declared.plans.FileMap.{FileMap}
use Rattle.edit_planner.specs.Facts.{IsRead, TellsOf}
use Rattle.edit_planner.specs.Kinds.{model_in}
use Rattle.edit_planner.specs.Plan.{IsReady, fields_in, kind_in, streams_in, told_in}
use Rattle.edit_planner.proofs.OfKind.{law}
use Rattle.metaedit_top.specs.declared.outcome.Finished.{Finished}
use Rattle.metaedit_top.specs.declared.outcome.Prepared.{Prepared}
use Rattle.metaedit_top.specs.declared.outcome.Stop.{Stop}
use Rattle.metaedit_top.specs.declared.outcome.Stop.TheVariants as stop
use Rattle.metaedit_top.specs.declared.words.Request.{Request}
use Rattle.metaedit_top.specs.Asked.{Accepts, AcceptsEdit, broken_by, change_bytes, changes, edit_bytes, edits_file, fields_of, fits, has_room, is_idle, new_file, new_of, payload, run_bytes, too_large}
use Rattle.metaedit_top.specs.Changed.{ChangeStops, IsChange, IsFresh, IsLine, IsPrepared, MakesEdit, OnSwap, PrepareStops, Prepares, StartsChange, changed_summary, edit_summary, is_in_place}
use Rattle.metaedit_top.specs.Run.{HasRun, IsEither}
use Rattle.metaedit_top.specs.Stage.{stop_of_plan, stop_of_read}
use Rattle.metaedit_top.specs.Told.{look_summary}
use Rattle.metaedit_top.proofs.Looks.{same_fields}
use Rattle.metaedit_top.proofs.Rules.{base_fine, effective_fine}

not_true : (t : Bool) → (t ≡ true → ⊥) → t ≡ false
not_true true h = absurd (h refl)
not_true false h = refl

-- in place exactly where there is room
place_is : (o : List ℕ) (e : List EditItem) (p : Plan) → IsForm (model_in o) o e p → has_room o e ≡ is_in_place p
place_is o e (InPlace old new ps) form = form.0
place_is o e (Rewrite new moves segments) form = not_true (has_room o e) form.0

-- and these bytes are written
bytes_are : (o : List ℕ) (e : List EditItem) (p : Plan) → IsForm (model_in o) o e p → bytes_written p ≡ change_bytes o e
bytes_are o e (InPlace old new ps) form =
    ap (λ (qs : List Patch). bytes_in_place qs) form.3
    ∙ sym (ap (λ (t : Bool). cond t (bytes_in_place ((model_in o).patches o e)) (length (new_file o e))) form.0)
bytes_are o e (Rewrite new moves segments) form =
    form.1 ∙ sym (ap (λ (t : Bool). cond t (bytes_in_place ((model_in o).patches o e)) (length (new_file o e))) (not_true (has_room o e) form.0))

-- ---- by a map

abbrev pub the_summary : Bool → ℕ → Summary
the_summary t n = record { changed = true; in_place = t; payload = n; findings = 0 }

module _ (e : List EditItem) (n : ℕ) (a b : Disk) (reads : ReadsOnly a b) where
  stops_here : (s : Stop) → ChangeStops e a b s → StartsChange e n a b (Err s)
  stops_here s h = record {
    change = λ o held bytes. tt;
    fresh = tt;
    belongs = λ o held. tt;
    told = tt;
    stops = h;
    reads = reads;
  }

  pub no_memory : (s : Stop) → s ≡ stop.Memory → StartsChange e n a b (Err s)
  unfolding stops_here
  no_memory s is = subst (λ (t : Stop). StartsChange e n a b (Err t)) (sym is) (stops_here stop.Memory tt)

  plan_stops : (fault : PlanFault) → ((o : List ℕ) → Holds a o → IsBytes o → Declines (model_in o) o e fault)
      → (◌≡◌ {A = Result Plan PlanFault} (Err fault) (Err plan.Depot) → Rose a.faults b.faults) → ChangeStops e a b (stop_of_plan fault)
  plan_stops (plan.TooLarge size limit) declines cause = declines
  plan_stops plan.Depot declines cause = cause refl
  plan_stops plan.Memory declines cause = tt

  -- an edit that isn't planned
  pub not_planned : (fault : PlanFault) (s : Stop) → s ≡ stop_of_plan fault → ((o : List ℕ) → Holds a o → IsBytes o → Declines (model_in o) o e fault)
      → (◌≡◌ {A = Result Plan PlanFault} (Err fault) (Err plan.Depot) → Rose a.faults b.faults) → StartsChange e n a b (Err s)
  unfolding stops_here plan_stops
  not_planned fault s is declines cause = subst (λ (t : Stop). StartsChange e n a b (Err t)) (sym is) (stops_here (stop_of_plan fault) (plan_stops fault declines cause))

  -- a plan, and a swap that has made no call
  pub planned : (plan : Plan) (s : Swapping) (f : Finished) (t : Bool) → ((o : List ℕ) → Holds a o → IsBytes o → IsPlanOf (model_in o) o e plan)
      → CanRun plan → ((o : List ℕ) → Holds a o → Belongs plan o) → s ≡ fresh plan → t ≡ is_in_place plan → f.summary ≡ the_summary t n → f.text ≡ done_line (the_summary t n)
      → StartsChange e n a b (Ok (record { finished = f; swap = Some s }))
  planned plan s f t plans can belongs is place summary text =
      let same : s.plan ≡ plan = ap (λ (x : Swapping). x.plan) is in
      record {
        change = λ o held bytes. record {
          swap = s;
          is = refl;
          planned = subst (IsPlanOf (model_in o) o e) (sym same) (plans o held bytes);
          summary_is = summary ∙ ap (λ (u : Bool). the_summary u n) (place ∙ sym (place_is o e plan (plans o held bytes).form));
        };
        fresh = record { unmade = is ∙ ap fresh (sym same); can = subst CanRun (sym same) can };
        belongs = λ o held. subst (λ (x : Plan). Belongs x o) (sym same) (belongs o held);
        told = record { text = text ∙ ap done_line (sym summary); no_findings = ap (λ (x : Summary). x.findings) summary };
        stops = tt;
        reads = reads;
      }

-- ---- the rules, and the items that have an effect

-- the rule that the fields of the map break is the one that those of the file break
broken_told : (o : List ℕ) (m : FileMap) (e : List EditItem) (sets : RuleSet) (found : Option Broken) → TellsOf (model_in o) o m
    → found ≡ broken (kind_in m) (streams_in m) (fields_in m) e sets → broken_by sets e o ≡ found
broken_told o m e sets found is told =
    ap (λ (k : Kind). broken k ((model_in o).streams o) (fields_of o) e sets) (sym is.kind)
    ∙ ap (λ (n : ℕ). broken (kind_in m) n (fields_of o) e sets) (sym is.streams)
    ∙ ap (λ (f : FieldMap). broken (kind_in m) (streams_in m) f e sets) (sym (same_fields o m is)) ∙ sym told

none_there : (e : List EditItem) → length e ≡ 0 → e ≡ []
none_there [] h = refl
none_there (i ∷ e) h = absurd (omega (arith, h))

some_there : (e : List EditItem) → 0 < length e → not (is_idle e) ≡ true
some_there [] h = absurd (omega arith)
some_there (i ∷ e) h = refl

pub is_none : (e : List EditItem) → true ≡ (length e == 0) → length e ≡ 0
is_none e h = eqb-true (length e) 0 (sym h)

pub is_some : (e : List EditItem) → false ≡ (length e == 0) → 0 < length e
is_some [] h = absurd cc
is_some (i ∷ e) h = omega arith

-- what the map's own answers say of the rules
pub broken_in : (m : FileMap) (k : Kind) (n : ℕ) (es : List Entry) (e : List EditItem) (sets : RuleSet) (r : Option Broken) → k ≡ kind_in m → n ≡ streams_in m → es ≡ (told_in m).fields
    → r ≡ broken k n (values es) e sets → r ≡ broken (kind_in m) (streams_in m) (fields_in m) e sets
broken_in m k n es e sets r kind streams fields is =
    is ∙ ap (λ (x : Kind). broken x n (values es) e sets) kind
    ∙ ap (λ (x : ℕ). broken (kind_in m) x (values es) e sets) streams
    ∙ ap (λ (x : List Entry). broken (kind_in m) (streams_in m) (values x) e sets) fields

-- the edit and its items with an effect make the same file
module _ (o : List ℕ) (all e : List EditItem) (is : e ≡ effective (fields_of o) all) where
  same_edit : SameEdit (model_in o) o e all
  same_edit = (law o).by_effect o e all is

  plan_same : (p : Plan) → IsForm (model_in o) o e p → IsForm (model_in o) o all p
  unfolding same_edit
  plan_same (InPlace old new ps) form = (
    sym same_edit.same_room ∙ form.0,
    form.1,
    form.2 ∙ ap (λ (n : List ℕ). length n) same_edit.same_file,
    form.3 ∙ same_edit.same_patches,
  )
  plan_same (Rewrite new moves segments) form = (λ room. form.0 (same_edit.same_room ∙ room), form.1 ∙ ap (λ (n : List ℕ). length n) same_edit.same_file)

  -- a plan of the one is a plan of the other
  plan_of : (p : Plan) → IsPlanOf (model_in o) o e p → IsPlanOf (model_in o) o all p
  unfolding same_edit plan_same
  plan_of p is_plan = record {
    fits = sym same_edit.same_size ∙ is_plan.fits;
    makes = is_plan.makes ∙ same_edit.same_file;
    form = plan_same p is_plan.form;
    belongs = is_plan.belongs;
  }

  module _ (some : 0 < length e) where
    does_change : changes o all ≡ true
    does_change = ap (λ (es : List EditItem). not (is_idle es)) (sym is) ∙ some_there e some

    fits_same : fits o all ≡ has_room o e
    unfolding does_change same_edit
    fits_same = ap (λ (t : Bool). t && has_room o all) does_change ∙ sym same_edit.same_room

-- ---- what is ready for an edit

module _ (rules : RuleSet) (all : List EditItem) (a b : Disk) (reads : ReadsOnly a b) where
  refuses : (s : Stop) → PrepareStops rules all a b s → Prepares rules all a b (Err s)
  refuses s h = record {
    ready = λ o held bytes. tt;
    fresh = tt;
    belongs = λ o held. tt;
    told = tt;
    stops = h;
    reads = reads;
  }

  pub prepare_no_memory : (s : Stop) → s ≡ stop.Memory → Prepares rules all a b (Err s)
  unfolding refuses
  prepare_no_memory s is = subst (λ (t : Stop). Prepares rules all a b (Err t)) (sym is) (refuses stop.Memory tt)

  read_stops : (fault : ReadFault) → ((o : List ℕ) → Holds a o → Refuses (model_in o) o fault)
      → (◌≡◌ {A = Result FileMap ReadFault} (Err fault) (Err read.Depot) → Rose a.faults b.faults) → PrepareStops rules all a b (stop_of_read fault)
  read_stops (read.Why w) file cause = file
  read_stops read.Depot file cause = cause refl
  read_stops read.Memory file cause = tt

  -- a file that isn't read
  pub not_read : (fault : ReadFault) (s : Stop) → s ≡ stop_of_read fault → ((o : List ℕ) → Holds a o → Refuses (model_in o) o fault)
      → (◌≡◌ {A = Result FileMap ReadFault} (Err fault) (Err read.Depot) → Rose a.faults b.faults) → Prepares rules all a b (Err s)
  unfolding refuses read_stops
  not_read fault s is file cause = subst (λ (t : Stop). Prepares rules all a b (Err t)) (sym is) (refuses (stop_of_read fault) (read_stops fault file cause))

  module _ (m : FileMap) (of : IsRead a m) where
    can_edit : (o : List ℕ) → Holds a o → (model_in o).why o ≡ None
    can_edit o held = (of.tells o held).supported

    -- a rule is broken
    pub rule_stops : (found : Broken) → Some found ≡ broken (kind_in m) (streams_in m) (fields_in m) all rules → Prepares rules all a b (Err (stop.RuleBroken found))
    unfolding refuses can_edit
    rule_stops found is =
        refuses (stop.RuleBroken found) (λ o held. record { supported = can_edit o held; broken = broken_told o m all rules (Some found) (of.tells o held) is })

    module _ (e : List EditItem) (unbroken : None ≡ broken (kind_in m) (streams_in m) (fields_in m) all rules) (is : e ≡ effective (fields_in m) all) where
      is_in : (o : List ℕ) → Holds a o → e ≡ effective (fields_of o) all
      is_in o held = is ∙ ap (λ (f : FieldMap). effective f all) (same_fields o m (of.tells o held))

      pub ready : 0 < length e → IsReady (kind_in m) (streams_in m) (fields_in m) e
      ready some = record {
        changes_all = ap (effective (fields_in m)) is ∙ all_effective (fields_in m) all ∙ sym is;
        changes_some = some;
        keeps_rules =
            ap (λ (es : List EditItem). broken (kind_in m) (streams_in m) (fields_in m) es Base) is
            ∙ effective_fine (kind_in m) (streams_in m) (fields_in m) all rules (sym unbroken);
      }

      rules_kept : (o : List ℕ) → Holds a o → broken_by rules all o ≡ None
      rules_kept o held = broken_told o m all rules None (of.tells o held) unbroken

      accepted : (o : List ℕ) → Holds a o → too_large o all ≡ None → AcceptsEdit rules all o
      unfolding rules_kept can_edit
      accepted o held small = record { supported = can_edit o held; unbroken = rules_kept o held; small = small }

      -- no item has an effect
      pub idle : length e ≡ 0 → (f : Finished) → f.summary ≡ look_summary (told_in m).payload 0 → f.text ≡ done_line (look_summary (told_in m).payload 0)
          → Prepares rules all a b (Ok (record { finished = f; swap = None }))
      unfolding accepted is_in
      idle none f summary text = record {
        ready = λ o held bytes.
            let no_effect : effective (fields_of o) all ≡ [] = sym (is_in o held) ∙ none_there e none in
            let idle = (law o).idle o all bytes (of.tells o held).supported no_effect in
            let still : changes o all ≡ false = ap (λ (es : List EditItem). not (is_idle es)) no_effect in
            record {
              accepts = accepted o held idle.1;
              makes = still;
              summary_is = summary ∙ ap (λ (n : ℕ). look_summary n 0) (of.tells o held).payload ∙ sym (ap (λ (t : Bool). idle_by t o) still);
            };
        fresh = tt;
        belongs = λ o held. tt;
        told = record { text = text ∙ ap done_line (sym summary); no_findings = ap (λ (s : Summary). s.findings) summary };
        stops = tt;
        reads = reads;
      }
        where
          idle_by : Bool → List ℕ → Summary
          idle_by t p = record { changed = t; in_place = t && has_room p all; payload = payload p; findings = 0 }

      -- an item has an effect
      module _ (c : Disk) (some : 0 < length e) where
        makes_by : (o : List ℕ) (p : Prepared) → Holds a o → (x : Option Swapping) (s : Swapping) → x ≡ Some s → IsPlanOf (model_in o) o e s.plan → MakesEdit x all o
        unfolding is_in does_change plan_of
        makes_by o p held None s is planned = absurd cc
        makes_by o p held (Some t) s is planned = (
          does_change o all e (is_in o held) some,
          subst (λ (y : Swapping). IsPlanOf (model_in o) o all y.plan) (sym (some_same is)) (plan_of o all e (is_in o held) s.plan planned),
        )
          where
            some_same : {x y : Swapping} → Some x ≡ Some y → x ≡ y
            some_same h = cc

        ready_so : (o : List ℕ) (p : Prepared) → Holds a o → IsChange o e (told_in m).payload p → IsPrepared rules all o p
        unfolding accepted is_in same_edit does_change fits_same makes_by
        ready_so o p held change =
            let same = same_edit o all e (is_in o held) in
            record {
              accepts = accepted o held (sym same.same_size ∙ change.planned.fits);
              makes = makes_by o p held p.swap change.swap change.is change.planned;
              summary_is = change.summary_is ∙ ap (λ (n : ℕ). by true (has_room o e) n) (of.tells o held).payload
                  ∙ ap (λ (u : Bool). by true u (payload o)) (sym (fits_same o all e (is_in o held) some))
                  ∙ ap (λ (t : Bool). by t (fits o all) (payload o)) (sym (does_change o all e (is_in o held) some));
            }
          where
            by : Bool → Bool → ℕ → Summary
            by t u n = record { changed = t; in_place = u; payload = n; findings = 0 }

        stops_so : (s : Stop) → ChangeStops e b c s → PrepareStops rules all a c s
        unfolding is_in rules_kept same_edit can_edit
        stops_so stop.Depot h = rose_sooner a.faults b.faults c.faults reads.faults h
        stops_so (stop.TooLarge size limit) h = λ o held bytes. record {
          supported = can_edit o held;
          unbroken = rules_kept o held;
          large = sym (same_edit o all e (is_in o held)).same_size ∙ h o (holds_on a b o reads held) bytes;
        }
        stops_so stop.Memory h = tt
        stops_so stop.NoFile h = absurd h
        stops_so stop.FileThere h = absurd h
        stops_so (stop.Damaged at) h = absurd h
        stops_so (stop.NotSupported w) h = absurd h
        stops_so (stop.RuleBroken w) h = absurd h

        pub starts : (r : Result Prepared Stop) → StartsChange e (told_in m).payload b c r → Prepares rules all a c r
        unfolding ready_so stops_so
        starts (Ok p) h = record {
          ready = λ o held bytes. ready_so o p held (h.change o (holds_on a b o reads held) bytes);
          fresh = h.fresh;
          belongs = λ o held. h.belongs o (holds_on a b o reads held);
          told = h.told;
          stops = tt;
          reads = ReadsOnly-trans a b c reads h.reads;
        }
        starts (Err s) h = record {
          ready = λ o held bytes. tt;
          fresh = tt;
          belongs = λ o held. tt;
          told = tt;
          stops = stops_so s h.stops;
          reads = ReadsOnly-trans a b c reads h.reads;
        }

-- ---- what carrying it out comes to, for a request that edits

no_effect : (e : List EditItem) → not (is_idle e) ≡ false → e ≡ []
no_effect [] h = refl
no_effect (i ∷ e) h = absurd cc

module _ (q : Request) (edits : edits_file q.command ≡ true) (by_edit : (o : List ℕ) → AcceptsEdit q.rules q.edit o → Accepts q o) (o : List ℕ) (p : Prepared) (ready : IsPrepared q.rules q.edit o p) (bytes : IsBytes o) where
  made_is : new_of q o ≡ new_file o q.edit
  made_is = ap (λ (t : Bool). cond t (new_file o q.edit) o) edits

  wrote_is : run_bytes q o ≡ edit_bytes o q.edit
  wrote_is = ap (λ (t : Bool). cond t (edit_bytes o q.edit) 0) edits

  edited : Edited (model_in o) o q.edit (new_file o q.edit)
  edited =
      (law o).edited o q.edit bytes ready.accepts.supported
      (base_fine ((model_in o).kind o) ((model_in o).streams o) (fields_of o) q.edit q.rules ready.accepts.unbroken) ready.accepts.small

  run_by : (redone : ℕ) (a c : Disk) → Stands (new_file o q.edit) c → c.slots.work ≡ None → c.written ≡ a.written + (redone + edit_bytes o q.edit) → HasRun q o redone a c
  unfolding made_is wrote_is edited
  run_by redone a c stands work written = record {
    accepts = by_edit o ready.accepts;
    stands = subst (λ (file : List ℕ). Stands file c) (sym made_is) stands;
    no_work = work;
    edited = λ is. edited;
    written = let k = wrote_is in omega (arith, written, k);
  }

  -- no item has an effect: the file is as it was
  pub run_idle : p.swap ≡ None → (redone : ℕ) (a c : Disk) → Stands o c → c.slots.work ≡ None → c.written ≡ a.written + redone → HasRun q o redone a c
  unfolding run_by
  run_idle is redone a c stands work written =
      let still : changes o q.edit ≡ false = subst (λ (x : Option Swapping). MakesEdit x q.edit o) is ready.makes in
      let idle = (law o).idle o q.edit bytes ready.accepts.supported (no_effect (effective (fields_of o) q.edit) still) in
      let nothing : edit_bytes o q.edit ≡ 0 = ap (λ (t : Bool). cond t (change_bytes o q.edit) 0) still in
      run_by redone a c (subst (λ (file : List ℕ). Stands file c) (sym idle.0) stands) work (omega (arith, written, nothing))

  -- the swap's plan is one of the edit
  module _ (s : Swapping) (is : p.swap ≡ Some s) where
    makes : (changes o q.edit ≡ true) × IsPlanOf (model_in o) o q.edit s.plan
    makes = subst (λ (x : Option Swapping). MakesEdit x q.edit o) is ready.makes

    pub plan_bytes : bytes_written s.plan ≡ run_bytes q o
    unfolding makes wrote_is
    plan_bytes =
        bytes_are o q.edit s.plan makes.1.form
        ∙ sym (ap (λ (t : Bool). cond t (change_bytes o q.edit) 0) makes.0) ∙ sym wrote_is

    -- its new file stands there
    pub run_made : (redone : ℕ) (a c : Disk) → Stands (applied s.plan o) c → c.slots.work ≡ None → c.written ≡ a.written + (redone + bytes_written s.plan) → HasRun q o redone a c
    unfolding run_by makes plan_bytes wrote_is
    run_made redone a c stands work written =
        run_by redone a c (subst (λ (file : List ℕ). Stands file c) makes.1.makes stands) work
        (let n = plan_bytes in let k = wrote_is in omega (arith, written, n, k))

    -- what a crash may leave of it
    pub either_made : (i : Image) → SettlesEither o (applied s.plan o) i → IsEither q o i
    unfolding makes made_is
    either_made i either =
        ⊎_elim (λ old. inl old)
        (λ new. inr (record {
          accepts = by_edit o ready.accepts;
          settles = subst (λ (f : List ℕ). Settles (Some f) i) (makes.1.makes ∙ sym made_is) new;
        })) either

    pub has_plan : IsPlanOf (model_in o) o q.edit s.plan
    unfolding makes
    has_plan = makes.1
