use Rattle.std.proofs.Common.{◌∙◌, ap, length, map, subst, sym}
use Rattle.mib_model.specs.Soundness.{IsSound}
use Rattle.row_searches.specs.Parts.{database_by}
use Rattle.row_searches.proofs.searches.RowSearches.new.Goals as goal

pub invariant_of-result : goal.invariant_of-result
invariant_of-result c =
    let packets = c.in_ok-new.ensures ∙ (λ i. record { pid = c.pid.ensures.rows i; pic = c.pic.ensures.rows i; tpcf = c.tpcf.ensures.rows i }) in
    let pcf = c.in_ok-new-2.ensures ∙ c.pcf.ensures.rows in
    let plf = c.in_ok-new-3.ensures ∙ c.plf.ensures.rows in
    let vpd = c.in_ok-new-4.ensures ∙ c.vpd.ensures.rows in
    let checks = c.in_ok-new-5.ensures ∙ (λ i. record { ocf = c.ocf.ensures.rows i; ocp = c.ocp.ensures.rows i }) in (
      ap length (c.vpd-2.ensures.rows ∙ sym vpd),
      c.in_ok-names_of.ensures ∙ ap (map (λ row. row.name)) (c.pcf-2.ensures.rows ∙ sym pcf),
      subst IsSound (λ i. database_by (sym packets i) (sym pcf i) (sym plf i) (sym vpd i) (sym c.in_ok-curve_rows.ensures i) (sym checks i)) c.requires,
    )
