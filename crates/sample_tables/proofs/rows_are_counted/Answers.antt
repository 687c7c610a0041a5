use Rattle.sample_tables.proofs.Rows.{places_counted, runs_counted, sizes_counted}
use Rattle.sample_tables.proofs.rows_are_counted.Goals as goal

pub returns-clause-places : goal.returns-clause-places
returns-clause-places c = places_counted

pub returns-clause-runs : goal.returns-clause-runs
returns-clause-runs c = runs_counted

pub returns-clause-sizes : goal.returns-clause-sizes
returns-clause-sizes c = sizes_counted
