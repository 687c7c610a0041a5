-- What is told of a file that is only read.
use Rattle.std.proofs.Common.{◌≡◌, ℕ, ◌+◌, List, [], length, ◌++◌, Bool, true, false, Option, Some, None, Ok, sym, ap, ◌∙◌, subst, inl, inr}
use Rattle.std.specs.Prelude.{◌⊎◌, ◌∷◌, IsTrue, IfSome}
use Rattle.std.proofs.Math.Path.{fun_ext}
use Rattle.me_bytes.specs.Bytes.{IsBytes}
use Rattle.me_disk.specs.Disk.{Disk, bytes_of}
use Rattle.me_disk.specs.Holds.{Holds, Inside}
use Rattle.me_disk.specs.Steps.{ReadsOnly}
use Rattle.part_tree.specs.declared.field.Broken.{Broken}
use Rattle.part_tree.specs.declared.field.RuleSet.{RuleSet}
use Rattle.part_tree.specs.declared.names.Kind.{Kind}
use Rattle.part_tree.specs.declared.names.Span.{Span}
use Rattle.part_tree.specs.declared.fields.Entry.{Entry}
use Rattle.part_tree.specs.declared.shows.Track.{Track}
use Rattle.part_tree.specs.Shows.{Told}
use Rattle.std.specs.List.{AllByRecursion}
use Rattle.track_samples.specs.Places.{Lies, TablesLie}
use Rattle.part_tree.specs.Fields.{IsMap, values}
use Rattle.field_model.specs.Broken.{findings}
use Rattle.field_model.specs.Fields.{FieldMap}
use Rattle.me_report.specs.declared.line.Summary.{Summary}
use Rattle.me_report.specs.Checksums.{checksum_text, finding_count}
use Rattle.me_report.specs.Findings.{findings_text}
use Rattle.me_report.specs.Report.{show_report}
use Rattle.edit_planner.specs.declared.plans.FileMap.{FileMap}
use Rattle.edit_planner.specs.Facts.{IsRead, TellsOf, hashed_in}
use Rattle.edit_planner.specs.Kinds.{model_in}
use Rattle.edit_planner.specs.Plan.{fields_in, kind_in, streams_in, told_in}
use Rattle.metaedit_top.specs.declared.outcome.Finished.{Finished}
use Rattle.metaedit_top.specs.declared.words.Command.{Command}
use Rattle.metaedit_top.specs.declared.words.Command.TheVariants as command
use Rattle.metaedit_top.specs.declared.words.Request.{Request}
use Rattle.metaedit_top.specs.Asked.{AcceptsBy, digest, digest_of, edits_file, fields_of, payload, why_in}
use Rattle.metaedit_top.specs.Run.{HasTold}
use Rattle.metaedit_top.specs.Stage.{Acts, IsSettled}
use Rattle.metaedit_top.specs.Told.{Fixes, IsUnedited, ReportsBy, Shows, findings_in, look_summary, summary_by}
use Rattle.metaedit_top.proofs.Acted.{looks}

pub same_fields : (o : List ℕ) (m : FileMap) → TellsOf (model_in o) o m → fields_in m ≡ fields_of o
same_fields o m is = fun_ext is.fields

unedited : (s : Summary) (n k : ℕ) → s ≡ look_summary n k → IsUnedited s
unedited s n k is = record { unchanged = ap (λ (t : Summary). t.changed) is; not_in_place = ap (λ (t : Summary). t.in_place) is }

-- what the map breaks is what the file breaks
found_is : (o : List ℕ) (m : FileMap) (rules : RuleSet) → TellsOf (model_in o) o m → findings (kind_in m) (streams_in m) (fields_in m) [] rules ≡ findings_in rules o
found_is o m rules is =
    ap (λ (k : Kind). findings k (streams_in m) (fields_in m) [] rules) is.kind
    ∙ ap (λ (n : ℕ). findings ((model_in o).kind o) n (fields_in m) [] rules) is.streams
    ∙ ap (λ (f : FieldMap). findings ((model_in o).kind o) ((model_in o).streams o) f [] rules) (same_fields o m is)

abbrev told_as : Kind → ℕ → List Entry → Option ℕ → List Track → List Span → Told
told_as k n es x ts bs = record { kind = k; payload = n; fields = es; entries = x; tracks = ts; mdats = bs }

-- where there are no tracks, no body is told of
other_bodies : (o : List ℕ) (k : Kind) (n : ℕ) (es : List Entry) (x : Option ℕ) (ts : List Track) (bs cs : List Span) → ts ≡ []
    → show_report o (told_as k n es x ts bs) ≡ show_report o (told_as k n es x ts cs)
other_bodies o k n es x ts bs cs none =
    ap (λ (us : List Track). show_report o (told_as k n es x us bs)) none
    ∙ sym (ap (λ (us : List Track). show_report o (told_as k n es x us cs)) none)

same_bodies : (o : List ℕ) (k : Kind) (n : ℕ) (es : List Entry) (x : Option ℕ) (ts : List Track) (bs cs : List Span) → (ts ≡ []) ⊎ (bs ≡ cs)
    → show_report o (told_as k n es x ts bs) ≡ show_report o (told_as k n es x ts cs)
same_bodies o k n es x ts bs cs (inl none) = other_bodies o k n es x ts bs cs none
same_bodies o k n es x ts bs cs (inr same) = ap (λ (ss : List Span). show_report o (told_as k n es x ts ss)) same

-- what the map shows is shown of the file
shown_is : (o : List ℕ) (m : FileMap) (text : List ℕ) → TellsOf (model_in o) o m × IsMap (told_in m).fields → text ≡ show_report o (told_in m) → Shows o text
unfolding same_bodies
shown_is o m text is shown =
    let t = told_in m in
    let k = model_in o in
    record {
      fields = t.fields;
      lists = record { ordered = is.1; same = is.0.fields };
      is = shown
          ∙ ap (λ (x : Kind). show_report o (told_as x t.payload t.fields t.entries t.tracks t.mdats)) is.0.kind
          ∙ ap (λ (n : ℕ). show_report o (told_as (k.kind o) n t.fields t.entries t.tracks t.mdats)) is.0.payload
          ∙ ap (λ (x : Option ℕ). show_report o (told_as (k.kind o) (payload o) t.fields x t.tracks t.mdats)) is.0.entries
          ∙ same_bodies o (k.kind o) (payload o) t.fields (k.entries o) t.tracks t.mdats (k.essence o) is.0.bodies
          ∙ ap (λ (ts : List Track). show_report o (told_as (k.kind o) (payload o) t.fields (k.entries o) ts (k.essence o))) is.0.tracks;
    }

module _ (q : Request) (stood : Bool) (a b : Disk) (m : FileMap) (of : IsRead a m) (reads : ReadsOnly a b) (settled : IsSettled a) (f : Finished) where
  accepted : (c : Command) → ((o : List ℕ) → why_in o ≡ None → AcceptsBy c q.rules q.edit o) → q.command ≡ c → (o : List ℕ) → Holds a o → AcceptsBy q.command q.rules q.edit o
  accepted c by is o held = subst (λ (d : Command). AcceptsBy d q.rules q.edit o) (sym is) (by o (of.tells o held).supported)

  told : (c : Command) → q.command ≡ c → (o : List ℕ) → f.summary ≡ summary_by c q o → ReportsBy c q o stood f.text → HasTold q o stood f
  told c is o summary text = record {
    summary_is = summary ∙ sym (ap (λ (d : Command). summary_by d q o) is);
    report_is = subst (λ (d : Command). ReportsBy d q o stood f.text) (sym is) text;
  }

  pub show_acts : q.command ≡ command.Show → f.summary ≡ look_summary (told_in m).payload 0 → ((o : List ℕ) → Holds a o → f.text ≡ show_report o (told_in m)) → Acts q stood a b (Ok f)
  unfolding accepted told shown_is unedited
  show_acts is summary text =
      looks q stood a b reads f (ap edits_file is) settled
      (subst (λ (c : Command). Fixes c f.summary) (sym is) (unedited f.summary _ _ summary, ap (λ (s : Summary). s.findings) summary))
      (λ o held bytes. (
        accepted command.Show (λ o h. h) is o held,
        told command.Show is o (summary ∙ ap (λ (n : ℕ). look_summary n 0) (of.tells o held).payload) (shown_is o m f.text (of.tells o held, of.ordered) (text o held)),
      ))

  pub validate_acts : q.command ≡ command.Validate
      → f.summary ≡ look_summary (told_in m).payload (length (findings (kind_in m) (streams_in m) (fields_in m) [] q.rules))
      → f.text ≡ findings_text (findings (kind_in m) (streams_in m) (fields_in m) [] q.rules) → Acts q stood a b (Ok f)
  unfolding accepted told unedited
  validate_acts is summary text =
      looks q stood a b reads f (ap edits_file is) settled (subst (λ (c : Command). Fixes c f.summary) (sym is) (unedited f.summary _ _ summary))
      (λ o held bytes.
      let tells = of.tells o held in
      let found = found_is o m q.rules tells in (
        accepted command.Validate (λ o h. h) is o held,
        told command.Validate is o
            (summary ∙ ap (λ (n : ℕ). look_summary n (length (findings (kind_in m) (streams_in m) (fields_in m) [] q.rules))) tells.payload
            ∙ ap (λ (bs : List Broken). look_summary (payload o) (length bs)) found)
            (text ∙ ap findings_text found),
      ))

  pub md5_acts : q.command ≡ command.Md5 → (d : Option (List ℕ)) → ((o : List ℕ) → Holds a o → d ≡ digest_of o (hashed_in m))
      → f.summary ≡ look_summary (told_in m).payload (finding_count (fields_in m) d) → f.text ≡ checksum_text (fields_in m) d → Acts q stood a b (Ok f)
  unfolding accepted told unedited
  md5_acts is d computed summary text =
      looks q stood a b reads f (ap edits_file is) settled (subst (λ (c : Command). Fixes c f.summary) (sym is) (unedited f.summary _ _ summary))
      (λ o held bytes.
      let tells = of.tells o held in
      let fields = same_fields o m tells in
      let same : d ≡ digest o = computed o held ∙ ap (digest_of o) tells.hashed in (
        accepted command.Md5 (λ o h. h) is o held,
        told command.Md5 is o
            (summary ∙ ap (λ (n : ℕ). look_summary n (finding_count (fields_in m) d)) tells.payload
            ∙ ap (λ (g : FieldMap). look_summary (payload o) (finding_count g d)) fields
            ∙ ap (λ (x : Option (List ℕ)). look_summary (payload o) (finding_count (fields_of o) x)) same)
            (text ∙ ap (λ (g : FieldMap). checksum_text g d) fields ∙ ap (λ (x : Option (List ℕ)). checksum_text (fields_of o) x) same),
      ))

-- what was read of a depot is still so after calls that only read
held_before : (a b : Disk) (o : List ℕ) → ReadsOnly a b → Holds b o → Holds a o
held_before a b o reads held = record { tells = subst IsTrue reads.tells held.tells; bytes = ap bytes_of (sym reads.main) ∙ held.bytes }

inside_on : (a b : Disk) (x : Option Span) → ReadsOnly a b → IfSome x (λ s. Inside (s.at + s.len) a) → IfSome x (λ s. Inside (s.at + s.len) b)
inside_on a b None reads h = tt
inside_on a b (Some s) reads h = λ o held. h o (held_before a b o reads held)

lies_on : (a b : Disk) (s : Span) → ReadsOnly a b → Lies a s → Lies b s
lies_on a b s reads h = record { inside = λ o held. h.inside o (held_before a b o reads held); small = h.small }

may_lie_on : (a b : Disk) (x : Option Span) → ReadsOnly a b → IfSome x (Lies a) → IfSome x (Lies b)
may_lie_on a b None reads h = tt
may_lie_on a b (Some s) reads h = lies_on a b s reads h

tables_on : (a b : Disk) (ts : List Track) → ReadsOnly a b → AllByRecursion (TablesLie a) ts → AllByRecursion (TablesLie b) ts
tables_on a b [] reads h = tt
tables_on a b (t ∷ ts) reads h = (
  record { chunks = lies_on a b t.chunks reads h.0.chunks; runs = may_lie_on a b t.stsc reads h.0.runs; sizes = may_lie_on a b t.stsz reads h.0.sizes },
  tables_on a b ts reads h.1,
)

pub still_read : (a b : Disk) (m : FileMap) → ReadsOnly a b → IsRead a m → IsRead b m
still_read a b m reads of = record {
  mapped = λ o held. of.mapped o (held_before a b o reads held);
  tells = λ o held. of.tells o (held_before a b o reads held);
  sound = of.sound;
  lawful = of.lawful;
  ordered = of.ordered;
  inside = inside_on a b (hashed_in m) reads of.inside;
  small = of.small;
  bodies_ascend = of.bodies_ascend;
  bodies_inside = λ o held. of.bodies_inside o (held_before a b o reads held);
  tables = tables_on a b (told_in m).tracks reads of.tables;
}

-- what the map's own answers break
pub findings_as : (m : FileMap) (k : Kind) (es : List Entry) (rules : RuleSet) (found : List Broken) → k ≡ kind_in m → es ≡ (told_in m).fields
    → ((n : ℕ) → found ≡ findings k n (values es) [] rules) → found ≡ findings (kind_in m) (streams_in m) (fields_in m) [] rules
findings_as m k es rules found kind fields is =
    is (streams_in m) ∙ ap (λ (x : Kind). findings x (streams_in m) (values es) [] rules) kind
    ∙ ap (λ (x : List Entry). findings (kind_in m) (streams_in m) (values x) [] rules) fields
