-- Packets that are expected one after the other, and how that ends.
use Rattle.std.proofs.Common.{◌≡◌, ◌∙◌, ℕ, zero, suc, ◌<◌, List, [], ◌∷◌, ◌++◌, length, Option, Some, None, refl, sym, ap, subst, arith, append-nil, inl, inr}
use Rattle.std.specs.Io.KnownBytes.{Consumes, IsAtEnd}
use Rattle.std.specs.List.{All, concat}
use Rattle.std.proofs.KnownBytes.{Consumes-nil, Consumes-trans, Consumes-whole}
use Rattle.std.proofs.lemmas.List.Elements.{All-append, All-nil, All-cons}
use Rattle.std.proofs.lemmas.List.Folds.{concat-append}
use Rattle.mib_model.specs.Interpreter.{start}
use Rattle.packet_feed.specs.Feed.{TookLast}
use Rattle.std.specs.Prelude.{IfSome}
use Rattle.mib_model.specs.Packets.{BeginsNoPacket, IsPacket}
use Rattle.mib_model.specs.Texts.{cut_text, rest_text}
use Rattle.tm_audit.specs.Audit.{compared}
use Rattle.tm_audit.specs.Comparing.{parting_with}
use Rattle.tm_audit.specs.declared.code.AuditCode.{AuditCode}
use Rattle.tm_audit.specs.declared.code.AuditCode.TheVariants as code
use Rattle.mibtm_audit.specs.declared.audit.Audit.{Audit}
use Rattle.mibtm_audit.specs.Comparing.{Comes, Compares, Ends, HasEnded, HasParted, IsReached, Parts, Stops, Takes, TakesRest, Took}
use Rattle.mibtm_audit.specs.Courses.{Against, IsUnderway, Stands, found_of}
use Rattle.mibtm_audit.proofs.FoundFacts.{apart-somewhere, found-apart, found-rest, reached}
use Rattle.mibtm_audit.proofs.CourseFacts.{text-rest, text-whole}

abbrev pub Known : Type 0
Known = Option (List ℕ)

pub no-octets : BeginsNoPacket []
no-octets zero few is = absurd (omega (arith, is))
no-octets (suc n) few is = absurd (omega (arith, is))

-- the line of a rest that isn't empty
rest-is : (rest : List ℕ) (count : ℕ) → length rest ≡ count → 0 < count → rest_text rest ≡ cut_text count ++ []
rest-is [] count size some = absurd (omega (arith, size, some))
rest-is (b ∷ rest) count size some = ap cut_text size ∙ sym (append-nil (cut_text count))

-- ---- one step

-- the text parts already
pub parted : (a : Against) (packets : List (List ℕ)) (audit : Audit) (old new : Known) (o : Option ℕ) → Stands a packets audit → new ≡ old
    → ((more : List ℕ) → parting_with audit.comparison more ≡ parting_with audit.comparison []) → parting_with audit.comparison [] ≡ o → Comes (Some (compared o)) a packets audit old new
parted a packets audit old new None s same apart is = absurd (apart-somewhere a packets audit s apart is)
parted a packets audit old new (Some line) s same apart is =
    inl (record { same = same; found = λ others rest. found-apart a packets audit s apart others rest ∙ ap compared is })

-- the feed has ended with a rest
pub ended : (a : Against) (packets : List (List ℕ)) (audit : Audit) (old new : Known) (rest : List ℕ) (o : Option ℕ) → found_of a packets rest ≡ compared o → TakesRest a packets rest old new → IfSome old (λ octets. octets ≡ rest)
    → Comes (Some (compared o)) a packets audit old new
ended a packets audit old new rest None is takes end = record { rest = rest; takes = takes; whole = end; found = is }
ended a packets audit old new rest (Some line) is takes end = inr (record { rest = rest; takes = takes; whole = end; found = is })

-- the whole of what was left, where packets of it were taken and this is what was behind them
whole-by : (old mid : Known) (packets : List (List ℕ)) (rest : List ℕ) → Consumes old mid (concat packets) → IfSome mid (λ octets. octets ≡ rest) → IfSome old (λ octets. octets ≡ concat packets ++ rest)
whole-by None mid packets rest taken is = tt
whole-by (Some octets) None packets rest taken is = absurd taken
whole-by (Some octets) (Some left) packets rest taken is = taken ∙ ap (λ (l : List ℕ). concat packets ++ l) is

at-end : (old : Known) → IsAtEnd old → IfSome old (λ octets. octets ≡ [])
at-end None end = tt
at-end (Some octets) end = end

-- what is found where the text parts already
pub parted-so : (a : Against) (packets : List (List ℕ)) (audit : Audit) (old new : Known) (found : AuditCode) → found ≡ compared (parting_with audit.comparison []) → Stands a packets audit → new ≡ old
    → ((more : List ℕ) → parting_with audit.comparison more ≡ parting_with audit.comparison []) → Comes (Some found) a packets audit old new
parted-so a packets audit old new found is s same apart =
    subst (λ (f : AuditCode). Comes (Some f) a packets audit old new) (sym is) (parted a packets audit old new (parting_with audit.comparison []) s same apart refl)

-- what is found where the feed ends with a packet
pub ended-so : (a : Against) (packets : List (List ℕ)) (audit : Audit) (old new : Known) (found : AuditCode) → found ≡ compared (parting_with audit.comparison []) → Stands a packets audit
    → (more : List ℕ) × (parting_with audit.comparison more ≡ None) → IsAtEnd old → Consumes old new [] → Comes (Some found) a packets audit old new
ended-so a packets audit old new found is s together end none =
    subst (λ (f : AuditCode). Comes (Some f) a packets audit old new) (sym is)
    (ended a packets audit old new [] (parting_with audit.comparison []) (found-rest a packets audit s [])
    (record { reached = reached a packets audit s together; begins_none = no-octets; consumed = none }) (at-end old end))

-- what is found where the feed ends with a rest
pub cut-so : (a : Against) (packets : List (List ℕ)) (audit behind : Audit) (old new : Known) (found : AuditCode) (count : ℕ) → found ≡ compared (parting_with behind.comparison [])
    → ((more : List ℕ) → parting_with behind.comparison more ≡ parting_with audit.comparison (cut_text count ++ more)) → Stands a packets audit
    → (more : List ℕ) × (parting_with audit.comparison more ≡ None) → TookLast count old new → Comes (Some found) a packets behind old new
cut-so a packets audit behind old new found count is expects s together (rest, size, some, none, consumed, end) =
    subst (λ (f : AuditCode). Comes (Some f) a packets behind old new) (sym is)
    (ended a packets behind old new rest (parting_with behind.comparison [])
    (found-rest a packets audit s rest ∙ ap compared (ap (parting_with audit.comparison) (rest-is rest count size some) ∙ sym (expects [])))
    (record { reached = reached a packets audit s together; begins_none = none; consumed = consumed }) (Consumes-whole old new rest (λ octets. octets ≡ rest) consumed end refl))

-- ---- packets

-- packets were taken, and the audit stands behind them
pub record Goes (a : Against) (audit : Audit) (old new : Known) : Type 0 where
  pub packets : List (List ℕ)
  pub last : List (List ℕ)
  pub took : Took a packets last [] old new
  pub stands : Stands a (packets ++ last) audit

pub none-taken : (a : Against) (old : Known) → Took a [] [] [] old old
none-taken a old = record {
  each = All-nil IsPacket;
  few = omega arith;
  begins_none = no-octets;
  consumed = Consumes-nil old;
  reached = (a.text, ap (λ (t : List ℕ). t ++ a.text) (sym (text-whole a [] [] ∙ text-rest a (start a.first) 0 [])));
}

-- nothing was taken, and nothing is found
pub stops-at : (a : Against) (old : Known) → Stops a old old
stops-at a old = record { packets = []; last = []; took = none-taken a old }

pub goes-start : (a : Against) (audit : Audit) (old : Known) → Stands a [] audit → Goes a audit old old
goes-start a audit old s = record { packets = []; last = []; took = none-taken a old; stands = s }

module _ (a : Against) (audit : Audit) (old mid new : Known) (g : Goes a audit old mid) where
  abbrev pub so_far : List (List ℕ)
  so_far = g.packets ++ g.last

  -- what was taken with octets behind it
  consumed-on : (rest : List ℕ) → Consumes mid new rest → Consumes old new (concat (so_far ++ []) ++ rest)
  consumed-on rest more = subst (λ (ps : List (List ℕ)). Consumes old new (concat ps ++ rest)) (sym (append-nil so_far))
      (Consumes-trans old mid new (concat so_far) rest (subst (Consumes old mid) (append-nil (concat so_far)) g.took.consumed) more)

  consumed-packet : (packet : List ℕ) → Consumes mid new packet → Consumes old new (concat (so_far ++ packet ∷ []) ++ [])
  consumed-packet packet more =
      let one : concat (packet ∷ []) ≡ packet = append-nil packet in
      subst (Consumes old new) (ap (λ (x : List ℕ). concat so_far ++ x) (sym one) ∙ (sym (concat-append so_far (packet ∷ [])) ∙ sym (append-nil (concat (so_far ++ packet ∷ [])))))
      (Consumes-trans old mid new (concat so_far) packet (subst (Consumes old mid) (append-nil (concat so_far)) g.took.consumed) more)

  with-packet : (packet : List ℕ) → IsPacket packet → IsReached a so_far → Consumes mid new packet → Took a so_far (packet ∷ []) [] old new
  with-packet packet is reached more = record {
    each = All-append IsPacket so_far (packet ∷ []) g.took.each (All-cons IsPacket packet [] is (All-nil IsPacket));
    few = omega arith;
    begins_none = no-octets;
    consumed = consumed-packet packet more;
    reached = reached;
  }

  with-rest : (rest : List ℕ) → TakesRest a so_far rest mid new → Took a so_far [] rest old new
  with-rest rest t = record {
    each = subst (All IsPacket) (sym (append-nil so_far)) g.took.each;
    few = omega arith;
    begins_none = t.begins_none;
    consumed = consumed-on rest t.consumed;
    reached = t.reached;
  }

  pub goes-on : (next : Audit) → Takes a so_far next mid new → Goes a next old new
  goes-on next t = record { packets = so_far; last = t.packet ∷ []; took = with-packet t.packet t.is_packet t.reached t.consumed; stands = t.stands }

  has-parted : (c : AuditCode) → HasParted c a so_far mid new → Parts c a old new
  has-parted c p = record { packets = g.packets; last = g.last; took = subst (Took a g.packets g.last [] old) (sym p.same) g.took; found = p.found }

  has-ended : (c : AuditCode) → HasEnded c a so_far mid new → Ends c a old new
  has-ended c e = record { packets = so_far; rest = e.rest; took = with-rest e.rest e.takes; whole = whole-by old mid so_far e.rest (subst (Consumes old mid) (append-nil (concat so_far)) g.took.consumed) e.whole; found = e.found }

  pub compares : (c : AuditCode) (next : Audit) → Comes (Some c) a so_far next mid new → Compares c a old new
  compares code.Same next comes = has-ended code.Same comes
  compares (code.Differs line) next (inl comes) = inl (has-parted (code.Differs line) comes)
  compares (code.Differs line) next (inr comes) = inr (has-ended (code.Differs line) comes)
  compares code.FeedFault next comes = record { packets = so_far; rest = comes.0; took = with-rest comes.0 comes.1 }
  compares code.Want next comes = record { packets = so_far; last = comes.packet ∷ []; took = with-packet comes.packet comes.is_packet comes.reached comes.consumed }
  compares (code.Usage misuse) next comes = absurd comes
  compares (code.BadMib fault) next comes = absurd comes
  compares (code.NoFile input) next comes = absurd comes
  compares (code.NoEdition line count) next comes = absurd comes
  compares code.TablesFault next comes = absurd comes
  compares code.DeskFault next comes = absurd comes
  compares code.OutFault next comes = absurd comes
  compares code.ReplyFault next comes = absurd comes
  compares code.Limit next comes = absurd comes
  compares code.TextFault next comes = absurd comes
  compares code.Large next comes = absurd comes

-- an audit that took a packet is underway
pub underway-on : (old new : Audit) (left behind : Known) → IsUnderway old → ((a : Against) (packets : List (List ℕ)) → Stands a packets old → Takes a packets new left behind) → IsUnderway new
underway-on old new left behind (a, packets, stands) takes = let t = takes a packets stands in (a, packets ++ t.packet ∷ [], t.stands)
