use Rattle.std.proofs.Common.{◌≡◌, ◌-◌, ◌++◌, ℕ, List}
use Rattle.me_disk.specs.Holds.{Holds}
use Rattle.me_disk.specs.Steps.{ReadsOnly}
use Rattle.me_disk.specs.Windows.{IsWindow}
use Rattle.container_model.specs.Chunk.{ends}
use Rattle.riff_form.specs.Walk.{row}
use Rattle.wave_model.specs.Map.{list_parts}
use Rattle.wave_parts.proofs.items.put_items.Given as goal

-- the items that are told and those that are left are all
abbrev pub invariant-items : goal.invariant-items
invariant-items g l = record {
  end : l.walker.end ≡ l.fn.end;
  window : IsWindow (g.D.Depot.disk l.depot) l.walker.window;
  reads : ReadsOnly (g.D.Depot.disk l.fn.depot) (g.D.Depot.disk l.depot);
  whole : (b : List ℕ) → Holds (g.D.Depot.disk l.fn.depot) b → (row b l.fn.start l.fn.end).stop ≡ ends → (row b l.walker.at l.walker.end).stop ≡ ends;
  left : (b : List ℕ) → Holds (g.D.Depot.disk l.fn.depot) b
      → l.parts.items ++ list_parts l.walker.at (row b l.walker.at l.walker.end) ≡ l.fn.parts.items ++ list_parts l.fn.start (row b l.fn.start l.fn.end);
}

abbrev pub decreases-items : goal.decreases-items
decreases-items g l = l.walker.end - l.walker.at
