-- The law of independent polling holds of every subsystem that is opened over a lawful register.
use Rattle.std.proofs.Common.{◌≡◌, T, List, length, replicate, refl, subst}
use Rattle.health.specs.Rows.{RowValues, clear_row}
use Rattle.register.specs.Controllers.{lawful}
use Rattle.register.specs.Registers.{RegisterValues}
use Rattle.register.specs.declared.port.Port.{Port}
use Rattle.model.specs.State.{Responder}
use Rattle.model.specs.Fitting.{Fitted, new_responder, opened}
use Rattle.model.specs.Law.{Law}
use Rattle.model.proofs.Responders.{changed_each}
use Rattle.model.proofs.Controllers.{lawful_ascends}
use Rattle.model.proofs.Noninterference.{noninterference}
use Rattle.model.proofs.Invariant.{Opening}
use Rattle.model.proofs.FlagsExact.{flags_exact}
use Rattle.model.proofs.CompositeComplete.{composite_complete}
use Rattle.model.proofs.CompositeExact.{composite_exact}

opening : (b : Fitted) (m : RegisterValues) (rows : List RowValues) (ports : List Port) → T (lawful m.controllers) → Opening (opened b m rows ports)
opening b m rows ports t =
    let count = length m.controllers in
    record {
      ascending = lawful_ascends 0 m.controllers t;
      clear = λ r y h.
          let x = changed_each (new_responder count) b.kinds r y h in
          subst (λ (v : Responder). (v.composite ≡ 0) × (v.rows ≡ replicate count clear_row)) x.2 (refl, refl);
    }

-- the law, of the state right after opening
pub independent_polling : (b : Fitted) (m : RegisterValues) (rows : List RowValues) (ports : List Port) → T (lawful m.controllers) → Law (opened b m rows ports)
independent_polling b m rows ports t =
    let s = opened b m rows ports in
    let o = opening b m rows ports t in
    record {
      noninterference = noninterference s;
      flags_exact = flags_exact s o;
      composite_complete = composite_complete s o;
      composite_exact = composite_exact s o;
    }
