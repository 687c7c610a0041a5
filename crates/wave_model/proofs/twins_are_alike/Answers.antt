use Rattle.wave_model.proofs.Twin.{twin_why, twin_fields, twin_pieces, twin_new, twin_large, twin_room, twin_patches}
use Rattle.wave_model.proofs.twins_are_alike.Goals as goal

pub returns-clause-why : goal.returns-clause-why
returns-clause-why c = twin_why

pub returns-clause-fields : goal.returns-clause-fields
returns-clause-fields c = twin_fields

pub returns-clause-pieces : goal.returns-clause-pieces
returns-clause-pieces c = twin_pieces

pub returns-clause-new : goal.returns-clause-new
returns-clause-new c = twin_new

pub returns-clause-large : goal.returns-clause-large
returns-clause-large c = twin_large

pub returns-clause-room : goal.returns-clause-room
returns-clause-room c = twin_room

pub returns-clause-patches : goal.returns-clause-patches
returns-clause-patches c = twin_patches
