use Rattle.std.proofs.Common.{◌≡◌, ◌++◌, ◌∙◌, ℕ, List, ap, subst}
use Rattle.std.proofs.KnownBytes.{Appends-trans}
use Rattle.std.specs.Prelude.{OnOk}
use Rattle.std.specs.Io.KnownBytes.{Appends}
use Rattle.std.specs.List.{flat_map, zip}
use Rattle.zone_config.specs.declared.config.ConfigParts.{ConfigParts}
use Rattle.settings.specs.Listing.{pool_listing, serve_listing, settings_listing, zone_listing}
use Rattle.settings.proofs.Listed.{appends_then_on_ok}
use Rattle.settings.proofs.listing.write_settings.Goals as goal

pub returns : goal.returns
unfolding settings_listing
returns g c =
    let settings = c.args.settings.now in
    let parts = c.parts-parts.result.now in
    let pools = c.as_slice.result.now in
    let networks = c.as_slice-2.result.now in
    let start = g.W.Write.contents c.args.out.now in
    let one = g.W.Write.contents c.write_zone.new.out in
    let two = g.W.Write.contents c.write_serve.new.out in
    let end = g.W.Write.contents c.write_pools.new.out in
    let is : parts ≡ settings.config = c.parts-parts.ensures.same in
    let served : networks ≡ settings.config.networks =
    c.as_slice-2.ensures ∙ ap (λ (p : ConfigParts). p.networks) is in
    let same : (zone_listing parts ++ serve_listing settings) ++ flat_map pool_listing (zip pools networks)
    ≡ settings_listing settings =
    λ i. (zone_listing (is i) ++ serve_listing settings)
    ++ flat_map pool_listing (zip (c.as_slice.ensures i) (served i)) in
    subst (λ (t : List ℕ). OnOk c.write_pools.result (Appends start end t)) same
    (appends_then_on_ok c.write_pools.result start two end (zone_listing parts ++ serve_listing settings)
    (flat_map pool_listing (zip pools networks))
    (Appends-trans start one two (zone_listing parts) (serve_listing settings) c.in_ok-write_zone.ensures
    c.in_ok-write_serve.ensures)
    c.write_pools.ensures)
