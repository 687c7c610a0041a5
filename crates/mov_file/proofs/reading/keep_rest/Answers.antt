use Rattle.std.proofs.Common.{arith, refl, rules, subst, ◌-◌, ◌∷◌, [], ℕ, List}
use Rattle.part_tree.specs.Letters.{four}
use Rattle.part_tree.specs.declared.part.Part.{Part}
use Rattle.part_tree.specs.declared.part.Role.TheVariants.{Rest}
use Rattle.mov_file.specs.Sound.{LiesIn}
use Rattle.mov_file.proofs.Sound.{lies_none, lies_rest}
use Rattle.mov_file.proofs.reading.keep_rest.Goals as goal

pub returns-then-at-end-clause-lies : goal.returns-then-at-end-clause-lies
returns-then-at-end-clause-lies c = λ h. subst (λ (e : ℕ). LiesIn h c.args.at e c.args.reading.now c.args.reading.now) c.if-at-end.true (lies_none h c.args.at c.args.reading.now)

pub returns-in-Ok-clause-lies : goal.returns-in-Ok-clause-lies
returns-in-Ok-clause-lies c = λ h.
    let rest : List Part = record { id = four (0 ∷ 0 ∷ 0 ∷ 0 ∷ []); at = c.args.at; body = record { at = c.args.at; len = c.args.end - c.args.at }; next = c.args.end; role = Rest } ∷ [] in
    lies_rest h c.args.at c.args.end rest c.args.reading.now _ c.requires.order (record { head = omega arith; body = omega (arith, c.requires.order); next = omega arith }, tt) (search rules)
