-- The code of a run of a panel is that of what happened.
use Rattle.std.proofs.Common.{◌≡◌, ◌∙◌, ℕ, Bool, true, false, List, [], ◌∷◌, length, refl, sym, ap}
use Rattle.std.proofs.lemmas.Bool.{false≢true}
use Rattle.std.specs.Prelude.{◌||◌}
use Rattle.std.specs.List.{fold, list_any}
use Rattle.live_desk.specs.declared.desk_end.DeskEnd.{DeskEnd}
use Rattle.live_desk.specs.declared.desk_end.DeskEnd.TheVariants as end
use Rattle.live_desk.specs.DeskEnds.{is_desk_fault, is_reply_fault}
use Rattle.live_session.specs.Live.{ending_of}
use Rattle.run_model.specs.Endings.{Ending, code_of_ending}
use Rattle.panel_session.specs.Codes.{graver, with_end}
use Rattle.panel_session.specs.Lanes.{Lane}
use Rattle.panel_session.specs.Panel.{Station, panel_ending}
use Rattle.panel_session.proofs.LaneFacts.{EndAs}

-- the gravest end of stations, and of this one
abbrev pub gravest_from : DeskEnd → List Station → DeskEnd
gravest_from worst stations = fold (λ w station. graver w station.end) worst stations

reply-graver : (w e : DeskEnd) → is_reply_fault (graver w e) ≡ (is_reply_fault w || is_reply_fault e)
reply-graver end.ReplyFault e = refl
reply-graver end.DeskFault end.ReplyFault = refl
reply-graver end.DeskFault end.DeskFault = refl
reply-graver end.DeskFault end.Done = refl
reply-graver end.DeskFault end.Limit = refl
reply-graver end.Done e = refl
reply-graver end.Limit e = refl

desk-graver : (w e : DeskEnd) → is_reply_fault (graver w e) ≡ false → is_desk_fault (graver w e) ≡ (is_desk_fault w || is_desk_fault e)
desk-graver end.ReplyFault e none = absurd (false≢true (sym none))
desk-graver end.DeskFault end.ReplyFault none = absurd (false≢true (sym none))
desk-graver end.DeskFault end.DeskFault none = refl
desk-graver end.DeskFault end.Done none = refl
desk-graver end.DeskFault end.Limit none = refl
desk-graver end.Done e none = refl
desk-graver end.Limit e none = refl

or-assoc : (a b c : Bool) → ((a || b) || c) ≡ (a || (b || c))
or-assoc true b c = refl
or-assoc false b c = refl

or-front : (a b : Bool) → (a || b) ≡ false → a ≡ false
or-front true b none = none
or-front false b none = refl

or-none : (a : Bool) → (a || false) ≡ a
or-none true = refl
or-none false = refl

-- replies failed where those of a desk did
reply-gravest : (w : DeskEnd) (stations : List Station) → is_reply_fault (gravest_from w stations) ≡ (is_reply_fault w || list_any (λ s. is_reply_fault s.end) stations)
reply-gravest w [] = sym (or-none (is_reply_fault w))
reply-gravest w (s ∷ ss) =
    reply-gravest (graver w s.end) ss ∙ ap (λ b. b || list_any (λ s. is_reply_fault s.end) ss) (reply-graver w s.end)
    ∙ or-assoc (is_reply_fault w) (is_reply_fault s.end) (list_any (λ s. is_reply_fault s.end) ss)

-- and where none did, a script failed where that of a desk did
desk-gravest : (w : DeskEnd) (stations : List Station) → is_reply_fault (gravest_from w stations) ≡ false → is_desk_fault (gravest_from w stations) ≡ (is_desk_fault w || list_any (λ s. is_desk_fault s.end) stations)
desk-gravest w [] none = sym (or-none (is_desk_fault w))
desk-gravest w (s ∷ ss) none =
    let front : is_reply_fault (graver w s.end) ≡ false = or-front (is_reply_fault (graver w s.end)) (list_any (λ s. is_reply_fault s.end) ss) (sym (reply-gravest (graver w s.end) ss) ∙ none) in
    desk-gravest (graver w s.end) ss none ∙ ap (λ b. b || list_any (λ s. is_desk_fault s.end) ss) (desk-graver w s.end front)
    ∙ or-assoc (is_desk_fault w) (is_desk_fault s.end) (list_any (λ s. is_desk_fault s.end) ss)

-- what happened, by whether replies and a script failed
abbrev happened : Bool → Bool → Bool → Bool → ℕ → Bool → Ending
happened out replies feed desk rest limit =
    record { out_failed = out; replies_failed = replies; feed_failed = feed; desk_failed = desk; rest = rest; is_limit = limit }

-- where replies failed, a script makes no difference
same-code : (out replies feed one other : Bool) (rest : ℕ) (limit : Bool) → (replies ≡ false → one ≡ other) → code_of_ending (happened out replies feed one rest limit) ≡ code_of_ending (happened out replies feed other rest limit)
unfolding code_of_ending
same-code true replies feed one other rest limit same = refl
same-code false true feed one other rest limit same = refl
same-code false false true one other rest limit same = refl
same-code false false false one other rest limit same = ap (λ b. code_of_ending (happened false false false b rest limit)) (same refl)

-- the gravest end has the code of all
pub code-gravest : (out feed : Bool) (stations : List Station) (rest : List ℕ) (packets : List (List ℕ)) → code_of_ending (ending_of out feed (gravest_from end.Done stations) rest packets) ≡ code_of_ending (panel_ending out feed stations rest packets)
code-gravest out feed stations rest packets =
    let limit = (panel_ending out feed stations rest packets).is_limit in
    let replies = reply-gravest end.Done stations in
    same-code out (is_reply_fault (gravest_from end.Done stations)) feed (is_desk_fault (gravest_from end.Done stations)) (list_any (λ s. is_desk_fault s.end) stations) (length rest) limit (desk-gravest end.Done stations)
    ∙ ap (λ b. code_of_ending (happened out b feed (list_any (λ s. is_desk_fault s.end) stations) (length rest) limit)) replies

-- the gravest end of what desks own is that of the desks
pub gravest-same : (w : DeskEnd) (lanes : List Lane) (stations : List Station) → EndAs lanes stations → fold (λ worst lane. with_end worst lane.end) w lanes ≡ gravest_from w stations
gravest-same w [] [] ended = refl
gravest-same w (lane ∷ lanes) (s ∷ stations) (is, ended) =
    ap (λ (x : DeskEnd). fold (λ worst l. with_end worst l.end) x lanes) (ap (with_end w) is) ∙ gravest-same (graver w s.end) lanes stations ended
gravest-same w [] (s ∷ stations) ended = absurd ended
gravest-same w (lane ∷ lanes) [] ended = absurd ended
