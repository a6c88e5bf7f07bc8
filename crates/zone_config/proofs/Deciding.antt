-- The derived test of equality of settings decides whether they are equal.
use Rattle.std.proofs.Common.{◌≡◌, List, Option, ap, refl, rules}
use Rattle.std.specs.Bool.{Decides}
use Rattle.std.specs.Option.{option_eq}
use Rattle.std.specs.Cmp.Lexicographic.{pointwise}
use Rattle.std.proofs.lemmas.Bool.{and_parts, and_from}
use Rattle.std.proofs.lemmas.Bool.Decides.{Decides-eqb}
use Rattle.std.proofs.lemmas.Slice.Eq.{slice_eq-Decides}
use Rattle.ras_module.specs.Same.{texts_decide, address_decides}
use Rattle.ras_module.proofs.Deciding.{options_decide}
use Rattle.zone_config.specs.Networks.{same_network}
use Rattle.zone_config.specs.declared.config.ConfigParts.{ConfigParts}
use Rattle.zone_config.specs.declared.network.Network.{Network}
use Rattle.zone_config.specs.contracts.config.ConfigPartsPartialEq.TheImpl as parts_eq

network_decides : (a b : Network) → Decides (same_network a b) (a ≡ b)
network_decides a b = search (rules, texts_decide, Decides-eqb)

networks_decide : (a b : List (Option Network))
    → Decides (pointwise (option_eq same_network) a b) (a ≡ b)
networks_decide a b = slice_eq-Decides (options_decide same_network network_decides) a b
    (pointwise (option_eq same_network) a b) refl

pub parts_decide : (a b : ConfigParts) → Decides ((parts_eq.ghosts).eq a b) (a ≡ b)
parts_decide a b = (
  λ h.
      (let h1 = and_parts _ _ h in
      let h2 = and_parts _ _ h1.1 in
      let h3 = and_parts _ _ h2.1 in
      let h4 = and_parts _ _ h3.1 in
      let h5 = and_parts _ _ h4.1 in
      let h6 = and_parts _ _ h5.1 in
      let h7 = and_parts _ _ h6.1 in
      let h8 = and_parts _ _ h7.1 in
      let h9 = and_parts _ _ h8.1 in
      let h10 = and_parts _ _ h9.1 in
      let h11 = and_parts _ _ h10.1 in
      let h12 = and_parts _ _ h11.1 in
      let h13 = and_parts _ _ h12.1 in
      let h14 = and_parts _ _ h13.1 in
      let h15 = and_parts _ _ h14.1 in
      let h16 = and_parts _ _ h15.1 in
      let identifier = (texts_decide a.identifier b.identifier).0 h1.0 in
      let address = (address_decides a.address b.address).0 h2.0 in
      let limit = (Decides-eqb a.limit b.limit).0 h3.0 in
      let call_limit = (Decides-eqb a.call_limit b.call_limit).0 h4.0 in
      let time_to_live = (Decides-eqb a.time_to_live b.time_to_live).0 h5.0 in
      let endpoints = (Decides-eqb a.endpoints b.endpoints).0 h6.0 in
      let calls = (Decides-eqb a.calls b.calls).0 h7.0 in
      let kept = (Decides-eqb a.kept b.kept).0 h8.0 in
      let window = (Decides-eqb a.window b.window).0 h9.0 in
      let silence = (Decides-eqb a.silence b.silence).0 h10.0 in
      let delay = (Decides-eqb a.delay b.delay).0 h11.0 in
      let retries = (Decides-eqb a.retries b.retries).0 h12.0 in
      let asks = (Decides-eqb a.asks b.asks).0 h13.0 in
      let ask_wait = (Decides-eqb a.ask_wait b.ask_wait).0 h14.0 in
      let pool_turn = (Decides-eqb a.pool_turn b.pool_turn).0 h15.0 in
      let least_grant = (Decides-eqb a.least_grant b.least_grant).0 h16.0 in
      let networks = (networks_decide a.networks b.networks).0 h16.1 in
      λ i. record {
        identifier = identifier i;
        address = address i;
        limit = limit i;
        call_limit = call_limit i;
        time_to_live = time_to_live i;
        endpoints = endpoints i;
        calls = calls i;
        kept = kept i;
        window = window i;
        silence = silence i;
        delay = delay i;
        retries = retries i;
        asks = asks i;
        ask_wait = ask_wait i;
        pool_turn = pool_turn i;
        least_grant = least_grant i;
        networks = networks i;
      }),
  λ e.
      (and_from _ _ ((texts_decide a.identifier b.identifier).1 (ap (λ c. c.identifier) e))
      (and_from _ _ ((address_decides a.address b.address).1 (ap (λ c. c.address) e))
      (and_from _ _ ((Decides-eqb a.limit b.limit).1 (ap (λ c. c.limit) e))
      (and_from _ _ ((Decides-eqb a.call_limit b.call_limit).1 (ap (λ c. c.call_limit) e))
      (and_from _ _ ((Decides-eqb a.time_to_live b.time_to_live).1 (ap (λ c. c.time_to_live) e))
      (and_from _ _ ((Decides-eqb a.endpoints b.endpoints).1 (ap (λ c. c.endpoints) e))
      (and_from _ _ ((Decides-eqb a.calls b.calls).1 (ap (λ c. c.calls) e))
      (and_from _ _ ((Decides-eqb a.kept b.kept).1 (ap (λ c. c.kept) e))
      (and_from _ _ ((Decides-eqb a.window b.window).1 (ap (λ c. c.window) e))
      (and_from _ _ ((Decides-eqb a.silence b.silence).1 (ap (λ c. c.silence) e))
      (and_from _ _ ((Decides-eqb a.delay b.delay).1 (ap (λ c. c.delay) e))
      (and_from _ _ ((Decides-eqb a.retries b.retries).1 (ap (λ c. c.retries) e))
      (and_from _ _ ((Decides-eqb a.asks b.asks).1 (ap (λ c. c.asks) e))
      (and_from _ _ ((Decides-eqb a.ask_wait b.ask_wait).1 (ap (λ c. c.ask_wait) e))
      (and_from _ _ ((Decides-eqb a.pool_turn b.pool_turn).1 (ap (λ c. c.pool_turn) e))
      (and_from _ _ ((Decides-eqb a.least_grant b.least_grant).1 (ap (λ c. c.least_grant) e))
      ((networks_decide a.networks b.networks).1 (ap (λ c. c.networks) e)))))))))))))))))),
)
