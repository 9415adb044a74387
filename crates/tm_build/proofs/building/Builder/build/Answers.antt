use Rattle.std.proofs.Common.{◌≡◌, ◌∙◌, ℕ, Bool, true, false, cond, nat_le, List, Option, Some, None, Result, refl, sym, ap, subst, arith}
use Rattle.std.specs.Prelude.{◌==◌}
use Rattle.std.specs.List.{find}
use Rattle.std.specs.Option.{option_copied}
use Rattle.std.proofs.lemmas.Bool.{le-leb, lt-leb}
use Rattle.mib_model.specs.declared.database.Database.{Database}
use Rattle.mib_model.specs.declared.packet.TheConstants.{IDLE_APID}
use Rattle.mib_model.specs.declared.rows.PicRow.{PicRow}
use Rattle.build_rules.specs.declared.fault.BuildFault.{BuildFault}
use Rattle.mib_model.specs.Soundness.{IsSound}
use Rattle.build_rules.specs.Building.{built, criterion_of, lacking}
use Rattle.tm_build.specs.Builds.{Builds, built_row}
use Rattle.tm_build.proofs.BuiltFacts.{built-by, built-none, given-back}
use Rattle.tm_build.proofs.building.Builder.build.Goals as goal

pub returns-in_default-clause-built : goal.returns-in_default-clause-built
returns-in_default-clause-built c other =
    built-none c.args.self.now c.args.spid c.args.count c.args.items.now
    (ap (λ (x : Database). find (λ row. row.spid == c.args.spid) x.pid) (sym c.self.view_is) ∙ (sym c.packet.ensures.row ∙ (sym c.copied.ensures ∙ c.in_default.is)))

pub returns-then-row-ge-IDLE_APID-clause-built : goal.returns-then-row-ge-IDLE_APID-clause-built
returns-then-row-ge-IDLE_APID-clause-built c other =
    let row = c.in-Some.row in
    let found = ap (λ (x : Database). find (λ r. r.spid == c.args.spid) x.pid) (sym c.self.view_is) ∙ (sym c.packet.ensures.row ∙ (sym c.copied.ensures ∙ c.in-Some.is)) in
    built-by c.args.self.now c.args.spid c.args.count c.args.items.now row true (lacking row (criterion_of c.args.self.now.pic row)) found (le-leb IDLE_APID row.apid c.if-row-ge-IDLE_APID.true) refl

pub returns-in-Some-lacking-clause-built : goal.returns-in-Some-lacking-clause-built
returns-in-Some-lacking-clause-built c other =
    let row = c.in-Some.row in
    let found = ap (λ (x : Database). find (λ r. r.spid == c.args.spid) x.pid) (sym c.self.view_is) ∙ (sym c.packet.ensures.row ∙ (sym c.copied.ensures ∙ c.in-Some.is)) in
    let criterion : option_copied c.as_ref.result ≡ criterion_of c.args.self.now.pic row =
    c.as_ref.ensures.value ∙ (c.copied-criterion.ensures ∙ (c.criterion.ensures ∙ ap (λ (x : Database). criterion_of x.pic row) c.self.view_is)) in
    let lacks : lacking row (criterion_of c.args.self.now.pic row) ≡ Some c.in-Some-lacking.which = ap (lacking row) (sym criterion) ∙ (sym c.lacking.ensures ∙ c.in-Some-lacking.is) in
    built-by c.args.self.now c.args.spid c.args.count c.args.items.now row false (Some c.in-Some-lacking.which) found (lt-leb IDLE_APID row.apid c.if-row-ge-IDLE_APID.false) lacks

pub returns-clause-built : goal.returns-clause-built
returns-clause-built c =
    let db = c.args.self.now in
    let row = c.in-Some.row in
    let found = ap (λ (x : Database). find (λ r. r.spid == c.args.spid) x.pid) (sym c.self.view_is) ∙ (sym c.packet.ensures.row ∙ (sym c.copied.ensures ∙ c.in-Some.is)) in
    let criterion : option_copied c.as_ref.result ≡ criterion_of db.pic row =
    c.as_ref.ensures.value ∙ (c.copied-criterion.ensures ∙ (c.criterion.ensures ∙ ap (λ (x : Database). criterion_of x.pic row) c.self.view_is)) in
    let again : option_copied c.as_ref-2.result ≡ criterion_of db.pic row =
    c.as_ref-2.ensures.value ∙ (c.copied-criterion.ensures ∙ (c.criterion.ensures ∙ ap (λ (x : Database). criterion_of x.pic row) c.self.view_is)) in
    let lacks : lacking row (criterion_of db.pic row) ≡ None = ap (lacking row) (sym criterion) ∙ (sym c.lacking.ensures ∙ c.in_default-lacking.is) in
    let whole = built-by db c.args.spid c.args.count c.args.items.now row false None found (lt-leb IDLE_APID row.apid c.if-row-ge-IDLE_APID.false) lacks in
    subst (λ (packet : Result (List ℕ) BuildFault). Builds c.build_row.result packet c.build_row.new.into)
    (ap (λ (cr : Option PicRow). built_row db row cr c.args.count c.args.items.now) again ∙ sym whole) c.build_row.ensures.built

pub returns-clause-gives_back : goal.returns-clause-gives_back
returns-clause-gives_back c =
    let db = c.args.self.now in
    let row = c.in-Some.row in
    let found = ap (λ (x : Database). find (λ r. r.spid == c.args.spid) x.pid) (sym c.self.view_is) ∙ (sym c.packet.ensures.row ∙ (sym c.copied.ensures ∙ c.in-Some.is)) in
    given-back db c.args.spid c.args.count c.args.items.now row c.build_row.new.into c.build_row.result (subst IsSound c.self.view_is c.packet.ensures.sound) found c.types_are_octets.ensures.0 c.types_are_octets.ensures.1
    (returns-clause-built c)
