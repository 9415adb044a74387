use Rattle.std.proofs.Common.{◌≡◌, ◌∙◌, refl, sym, ap, get_or, List, ℕ}
use Rattle.tm_io.proofs.FileFacts.{octets_at-set, file_of-set, fails_at-set, fails_at-set_other, fails_at-get}
use Rattle.tm_io.specs.Stops.{without}
use Rattle.tm_io.specs.declared.mem_shelf.MemFile.{MemFile}
use Rattle.tm_io.proofs.mem_shelf.spend_stop_of.Goals as goal

pub returns-clause-octets : goal.returns-clause-octets
returns-clause-octets c =
    let old : MemFile = get_or c.args.files.now c.args.place c.index-files-place.result in
    let is : old ≡ get_or c.args.files.now c.args.place old = rw (← c.index-files-place.is) c.index-files-place.is in
    λ i. octets_at-set c.args.files.now c.args.place i old (record old { fails = c.spend_stop.new.stops }) is refl

pub returns-clause-names : goal.returns-clause-names
returns-clause-names c =
    let old : MemFile = get_or c.args.files.now c.args.place c.index-files-place.result in
    let is : old ≡ get_or c.args.files.now c.args.place old = rw (← c.index-files-place.is) c.index-files-place.is in
    λ name. file_of-set c.args.files.now c.args.place old (record old { fails = c.spend_stop.new.stops }) name is refl refl

pub returns-clause-spent : goal.returns-clause-spent
returns-clause-spent c =
    let old : MemFile = get_or c.args.files.now c.args.place c.index-files-place.result in
    fails_at-set c.args.files.now c.args.place (record old { fails = c.spend_stop.new.stops }) c.requires
    ∙ c.spend_stop.ensures
    ∙ ap (λ (stops : List ℕ). without stops c.args.at)
    (ap (λ (file : MemFile). file.fails.items) (sym c.index-files-place.is) ∙ sym (fails_at-get c.args.files.now c.args.place c.index-files-place.result c.requires c.index-files-place.is))

pub returns-clause-others : goal.returns-clause-others
returns-clause-others c =
    let old : MemFile = get_or c.args.files.now c.args.place c.index-files-place.result in
    λ i. fails_at-set_other c.args.files.now c.args.place i (record old { fails = c.spend_stop.new.stops })
