-- The whole invariant holds after any choices. Each part's lemma names the parts that it needs. Assumes nothing.
--     opening_inv      at the opening
--     row_inv          every row keeps it
--     step_inv         so does every step, taken or refused
--     run_inv_from     so does a run from any state
--     run_inv          after any choices from an opening
use mathlib.Core.List.{List}
use Rattle.state.specs.declared.State.{State}
use Rattle.state.specs.declared.Choice.{Choice}
use Rattle.state.specs.declared.opening.Heap.{Heap}
use Rattle.state.specs.Openings.{opening_of}
use Rattle.formed.specs.Fits.{HeapFits}
use Rattle.formed.proofs.Opens.{opening_formed}
use Rattle.model.specs.Rows.{Row}
use Rattle.stays_formed.proofs.Kept.{row_kept}
use Rattle.engine.specs.Steps.{step_of}
use Rattle.claims.specs.Runs.{run_of}
use Rattle.claims.specs.Inv.{Inv, RunInv}
use Rattle.claims.proofs.Runs.{step_keeps, run_keeps}
use Rattle.claims.proofs.Lock.{opening_lock, step_lock}
use Rattle.claims.proofs.Pending.{opening_marks, step_marks, opening_mutator_stores, step_mutator_stores}
use Rattle.claims.proofs.Handshakes.{opening_handshakes, step_handshakes}
use Rattle.claims.proofs.Written.{opening_written, step_written}
use Rattle.claims.proofs.Noted.{opening_noted, step_noted}

pub opening_inv : (h : Heap) → HeapFits h → Inv (opening_of h)
opening_inv h f =
    record {
      formed = opening_formed h f;
      handshakes = opening_handshakes h f;
      lock = opening_lock h f;
      marks = opening_marks h f;
      stores = opening_mutator_stores h f;
      written = opening_written h f;
      noted = opening_noted h f;
    }

pub row_inv : (s : State) (c : Choice) (t : State) → Inv s → Row s c t → Inv t
row_inv s c t v r =
    let w = v.formed in
    record {
      formed = row_kept s c w r;
      handshakes = step_handshakes s c w v.handshakes r;
      lock = step_lock s c w v.lock r;
      marks = step_marks s c w v.marks r;
      stores = step_mutator_stores s c w v.stores r;
      written = step_written s c w v.stores v.written r;
      noted = step_noted s c w v.stores v.handshakes v.written v.noted r;
    }

pub step_inv : (s : State) (c : Choice) → Inv s → Inv (step_of s c).state
step_inv = step_keeps Inv row_inv

pub run_inv_from : (s : State) (cs : List Choice) → Inv s → Inv (run_of s cs)
run_inv_from = run_keeps Inv row_inv

pub run_inv : RunInv
run_inv h f cs = run_inv_from (opening_of h) cs (opening_inv h f)
