-- Where nothing is wrong with what is asked for.
use Rattle.std.proofs.Common.{◌≡◌, ◌≢◌, ◌∙◌, ℕ, List, take, Result, Ok, Err, refl, sym, subst}
use Rattle.build_rules.specs.declared.fault.BuildFault.{BuildFault}
use Rattle.build_rules.specs.declared.fault.BuildFault.TheVariants.{NoSpid, Apid, Discriminant, Items, Range, Ends, Long, Clash, Ask, Memory}
use Rattle.build_rules.specs.Building.{built}
use Rattle.tm_build.specs.Builds.{Builds, BuildsWhatIsRight, GivesOrLacksMemory}

module _ (packet into : List ℕ) where
  -- a fault of a packet that is there is want of memory
  is-memory : (fault : BuildFault) → (fault ≢ Memory → ◌≡◌ {A = Result (List ℕ) BuildFault} (Ok packet) (Err fault)) → fault ≡ Memory
  is-memory NoSpid h = absurd (cc (h (λ e. absurd (cc e))))
  is-memory (Apid apid) h = absurd (cc (h (λ e. absurd (cc e))))
  is-memory (Discriminant which) h = absurd (cc (h (λ e. absurd (cc e))))
  is-memory (Items at) h = absurd (cc (h (λ e. absurd (cc e))))
  is-memory (Range at) h = absurd (cc (h (λ e. absurd (cc e))))
  is-memory (Ends ended) h = absurd (cc (h (λ e. absurd (cc e))))
  is-memory Long h = absurd (cc (h (λ e. absurd (cc e))))
  is-memory (Clash bit) h = absurd (cc (h (λ e. absurd (cc e))))
  is-memory Ask h = absurd (cc (h (λ e. absurd (cc e))))
  is-memory Memory h = refl

  gives : (result : Result ℕ BuildFault) → Builds result (Ok packet) into → GivesOrLacksMemory result packet into
  gives (Ok octets) h = let same : packet ≡ take octets into = cc h in sym same
  gives (Err fault) h = is-memory fault h

pub builds-right : BuildsWhatIsRight
builds-right db spid count items packet result into right h =
    gives packet into result (subst (λ (p : Result (List ℕ) BuildFault). Builds result p into) right h)
