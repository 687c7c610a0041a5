use Rattle.std.proofs.Common.{◌≡◌, ◌∙◌, ◌++◌, ℕ, List, sym, ap, subst}
use Rattle.std.specs.Prelude.{OnOk}
use Rattle.part_tree.specs.Moves.{Move}
use Rattle.part_tree.specs.Plans.{AllNamed}
use Rattle.avi_plan.specs.Changes.{IsNamed, change_cut}
use Rattle.avi_plan.specs.Made.{made_of}
use Rattle.avi_plan.specs.declared.table.Change.{Change}
use Rattle.avi_plan.proofs.Made.{ok_map}
use Rattle.avi_plan.proofs.segments.Rewritten.push_new.Goals as goal

pub returns-in-Rows-clause-bytes : goal.returns-in-Rows-clause-bytes
returns-in-Rows-clause-bytes c =
    subst (λ (x : Change). OnOk c.push.result ((ms : List Move) (b : List ℕ) → made_of ms b c.push.new.self ≡ made_of ms b c.args.self.now ++ (change_cut ms b x).bytes)) (sym c.in-Rows.is) c.push.ensures.bytes

pub returns-in-Rows-clause-named : goal.returns-in-Rows-clause-named
returns-in-Rows-clause-named c =
    subst (λ (x : Change). OnOk c.push.result ((ms : List Move) (b : List ℕ) → IsNamed ms b x → AllNamed ms b c.args.self.now.segments.items → AllNamed ms b c.push.new.self.segments.items)) (sym c.in-Rows.is) c.push.ensures.named

pub returns-in-Base-clause-bytes : goal.returns-in-Base-clause-bytes
returns-in-Base-clause-bytes c =
    ok_map c.push_bytes.result _ _
    (λ h ms b. h ms b ∙ ap (λ (x : List ℕ). made_of ms b c.args.self.now ++ x) c.to_le_bytes.ensures ∙ ap (λ (x : Change). made_of ms b c.args.self.now ++ (change_cut ms b x).bytes) (sym c.in-Base.is))
    c.push_bytes.ensures.bytes

pub returns-in-Base-clause-sound : goal.returns-in-Base-clause-sound
returns-in-Base-clause-sound c = ok_map c.push_bytes.result _ _ (λ h b s m. h b m) c.push_bytes.ensures.sound

pub returns-in-Base-clause-named : goal.returns-in-Base-clause-named
returns-in-Base-clause-named c = ok_map c.push_bytes.result _ _ (λ h ms b s m. h ms b m) c.push_bytes.ensures.named
