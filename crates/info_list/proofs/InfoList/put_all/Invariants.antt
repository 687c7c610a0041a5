use Rattle.std.proofs.Common.{◌≡◌, drop}
use Rattle.container_model.specs.Items.{put_all}
use Rattle.carrier_model.specs.Info.{info_items}
use Rattle.info_list.specs.Changes.{changes_of}
use Rattle.info_list.specs.Info.{chunks_of}
use Rattle.info_list.proofs.InfoList.put_all.Given as goal

-- what the changes that are left make of the items is the whole
abbrev pub invariant-loop-change : goal.invariant-loop-change
invariant-loop-change l = record {
  whole : put_all info_items (changes_of (drop l.change-index l.changes)) (chunks_of l.self) ≡ put_all info_items (changes_of l.changes) (chunks_of l.fn.self);
  rest : l.self.rest ≡ l.fn.self.rest;
}
