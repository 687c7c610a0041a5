use Rattle.std.proofs.Common.{◌≡◌, ◌++◌, drop}
use Rattle.core_xml.specs.Markup.{marked}
use Rattle.core_xml.proofs.markup.put_marked.Given as goal

-- what is written, and what stands for the characters that are left
abbrev pub invariant-loop-x : goal.invariant-loop-x
invariant-loop-x l = l.out.items ++ marked (drop l.x-index l.text) ≡ l.fn.out.items ++ marked l.text
