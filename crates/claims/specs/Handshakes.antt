-- What holds of the handshakes after any choices: the five parts, each needed for the others. Assumes nothing.
use Rattle.state.specs.declared.State.{State}
use Rattle.claims.specs.Posted.{Posted, Typed}
use Rattle.claims.specs.Table.{Table}
use Rattle.claims.specs.Flags.{Flags}
use Rattle.claims.specs.Answering.{Answering}

pub record Handshakes (s : State) : Type 0 where
  pub posted : Posted s
  pub typed : Typed s
  pub table : Table s
  pub flags : Flags s
  pub answering : Answering s
