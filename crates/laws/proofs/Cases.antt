-- Each call about one peer is refused, or does one thing under what its conditions say.
use Rattle.std.proofs.Common.{◌≡◌, ℕ, Bool, true, false, cond, not, ◌&&◌, Some, None, Option, sym, refl, ap, subst}
use Rattle.std.proofs.lemmas.Bool.{both_ways, not-false, and_parts, cond_both, cond-false}
use Rattle.types.specs.Times.{earlier}
use Rattle.types.specs.declared.ingress.Ingress.{Ingress}
use Rattle.types.specs.declared.moment.Moment.{Moment}
use Rattle.keys.specs.Orders.{never}
use Rattle.record.specs.Cases.{is_inert}
use Rattle.record.specs.Records.{is_myself, outbound_target, eligible, deletable, dial_at, dial_status, dial_ingress, reserved_at, connected_from, released, with_status, fell_through}
use Rattle.record.specs.declared.address.Address.{Address}
use Rattle.record.specs.declared.address.Address.TheVariants.{Unknown, Myself, Bootstrapper, Discovered}
use Rattle.record.specs.declared.dialing.DialStatus.{DialStatus}
use Rattle.record.specs.declared.dialing.DialStatus.TheVariants as dial
use Rattle.record.specs.declared.record.Record.{Record}
use Rattle.record.specs.declared.role.Role.TheVariants.{Dialer, Listener}
use Rattle.record.specs.declared.status.Status.{Status}
use Rattle.record.specs.declared.status.Status.TheVariants.{Inert, Reserved, Active}
use Rattle.model.specs.Peers.{Turn, refuse, write, erase, is_blocked, is_unavailable, kept, dial_known, dial_turn, listen_turn, connect_at, connect_turn, release_at, release_turn}
use Rattle.model.specs.declared.config.Config.{Config}
use Rattle.model.specs.declared.fault.Fault.{Fault}
use Rattle.model.specs.declared.fault.Fault.TheVariants as fault

-- what can be dialled is inert
inert_since : (inert target : Bool) (status : DialStatus) → is_unavailable (cond (inert && target) status dial.Unavailable) ≡ false → inert ≡ true
inert_since true target status e = refl
inert_since false target status e = absurd (both_ways true e refl)

module _ {K : Type 0} where
  -- a record as it is released
  abbrev pub let_go : Record K → Record K
  let_go r = with_status r (fell_through r.address r.status r.role) Inert None

  -- we are never dialled, and never eligible

  pub never_dialled : (address : Address K) (ingress : Ingress) → is_myself address ≡ true → dial_ingress address ≡ Some ingress → ⊥
  never_dialled Unknown ingress e d = both_ways false refl e
  never_dialled (Myself info) ingress e d = never (cc)
  never_dialled (Bootstrapper own) ingress e d = both_ways false refl e
  never_dialled (Discovered info failures) ingress e d = both_ways false refl e

  pub never_eligible : (r : Record K) → is_myself r.address ≡ true → eligible r ≡ true → ⊥
  never_eligible r e h = both_ways (not (is_myself r.address)) (ap not e) (and_parts _ _ h).0

  module _ (P : Turn K → Type 0) (refused : (f : Fault) → P (refuse f)) (r : Record K) where
    module _ (config : Config) (now : Moment) (draw : ℕ) where
      pub dial_cases : (block : Option Moment) → ((ingress : Ingress) → is_inert r.status ≡ true → dial_ingress r.address ≡ Some ingress → P (write (reserved_at r now draw config.peer_connection_cooldown (Dialer ingress)))) → P (dial_turn config now draw block (Some r))
      dial_cases block does =
          cond_both (is_unavailable (dial_status r now config.allow_private_ips config.allow_dns)) _ _ P (λ e. refused fault.NotDialable)
          (λ u. cond_both (is_blocked now block) _ _ P (λ e. refused fault.Blocked)
          (λ b. cond_both (earlier now r.next_reservable_at) _ _ P (λ e. refused fault.TooEarly)
          (λ e. known (inert_since (is_inert r.status) (outbound_target r) (dial_at (dial_ingress r.address) config.allow_private_ips config.allow_dns now r.next_dial_at) u) (dial_ingress r.address) refl)))
        where
          known : is_inert r.status ≡ true → (o : Option Ingress) → dial_ingress r.address ≡ o → P (dial_known config now draw r o)
          known i None d = refused fault.NotDialable
          known i (Some ingress) d = does ingress i d

      pub listen_cases : (block : Option Moment) → (is_inert r.status ≡ true → eligible r ≡ true → P (write (reserved_at r now draw config.peer_connection_cooldown Listener))) → P (listen_turn config now draw block (Some r))
      listen_cases block does =
          cond_both (is_blocked now block) _ _ P (λ b. refused fault.Blocked)
          (λ b. cond_both (not (eligible r)) _ _ P (λ e. refused fault.NotEligible)
          (λ e. cond_both (not (is_inert r.status)) _ _ P (λ i. refused fault.NotInert)
          (λ i. cond_both (earlier now r.next_reservable_at) _ _ P (λ l. refused fault.TooEarly)
          (λ l. does (not-false (is_inert r.status) i) (not-false (eligible r) e)))))

    pub connect_cases : (r.status ≡ Reserved → P (write (connected_from r Reserved))) → P (connect_turn (Some r))
    connect_cases does = by r.status refl
      where
        by : (t : Status) → r.status ≡ t → P (connect_at r t)
        by Inert e = refused fault.NotReserved
        by Reserved e = subst (λ x. P (write (connected_from r x))) (sym e) (does e)
        by Active e = refused fault.NotReserved

    pub release_cases : (is_inert r.status ≡ false → deletable (let_go r) ≡ true → P (erase (let_go r))) → (is_inert r.status ≡ false → deletable (let_go r) ≡ false → P (write (let_go r))) → P (release_turn (Some r))
    release_cases goes stays = by r.status refl
      where
        open_by : is_inert r.status ≡ false → P (kept (released r))
        open_by i = subst (λ x. P (kept x)) (sym (cond-false (is_inert r.status) r (let_go r) i)) (cond_both (deletable (let_go r)) (erase (let_go r)) (write (let_go r)) P (goes i) (stays i))

        by : (t : Status) → r.status ≡ t → P (release_at r t)
        by Inert e = refused fault.IsInert
        by Reserved e = open_by (ap is_inert e)
        by Active e = open_by (ap is_inert e)
