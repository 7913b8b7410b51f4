use Rattle.std.proofs.Common.{ℕ, ◌≡◌, ◌+◌, ◌≤◌, ◌∙◌, ◌∷◌, [], Some, Ok, ap, inl, inr, refl, sym, arith}
use Rattle.lms_spec.specs.Hss.{capacity_of}
use Rattle.lms_hss.specs.Keys.{hss_key_of}
use Rattle.lms_hss.specs.declared.key.HssKey.{HssKey as KeyOfCode}
use Rattle.lms_image.specs.Image.{HasImage}
use Rattle.lms_book.specs.Stops.{only}
use Rattle.lms_world.specs.Events.{Written}
use Rattle.lms_world.specs.Names.{Bytes}
use Rattle.lms_commands.specs.Expectations.{IsCarried, ended}
use Rattle.lms_commands.specs.Histories.{IsSignature, Signature}
use Rattle.lms_worked_turns.specs.Worked.{IsRight, given_by, holding, image_after, resuming_run, watched_at}
use Rattle.lms_worked_turns.specs.Worked.{watched_run, witness_after}
use Rattle.lms_worked_turns.proofs.Carried.{after_first, among_one, another, only_stored, reads}
use Rattle.lms_worked_turns.proofs.runs_resume_by_their_witness.Goals as goal

-- they take their turns
module _ (key : KeyOfCode) (has : HasImage key 0 0 0) (enough : 2 ≤ capacity_of (hss_key_of key)) where
  signs : (n : ℕ) (name : Bytes) (one : Signature) → n ≤ 1 → IsSignature one → one.key ≡ key → one.index ≡ n
      → IsRight (watched_run key n name one)
  signs n name one below is of_key at = record {
    first = ended (watched_run key n name one).whole;
    later = Written name one.bytes (Ok tt) ∷ [];
    calls = refl;
    does = record {
      taken = holding (only (image_after key n));
      given = given_by key n (only (image_after key n));
      left = _;
      read = reads key has n (only (image_after key n)) (omega (arith, below, enough)) (0, omega arith, refl);
      text_is = refl;
      some = omega arith;
      within = omega (arith, below, enough);
      stores = inl refl;
      one_use = refl;
      seen = refl;
      admitted = (n, record { text_is = refl; fits = omega (arith, below) }, omega arith);
      notes_so = inr (Ok tt, refl);
    };
    nothing_leaves = refl;
    signs = (
      (is, of_key, omega (arith, at), omega (arith, at), tt),
      inr ((given_by key n (only (image_after key n)), _, refl), refl),
    );
    nothing_stored = refl;
    nothing_noted = refl;
  }

  resumes : IsRight (resuming_run key)
  resumes = record {
    first = (resuming_run key).whole;
    later = [];
    calls = refl;
    does = record {
      taken = holding (only (image_after key 0));
      given = given_by key 0 (only (image_after key 0));
      left = _;
      read = reads key has 0 (only (image_after key 0)) (omega arith) (0, omega arith, refl);
      some = omega arith;
      within = omega (arith, enough);
      stores = (
        1 ∷ [],
        _,
        omega arith,
        (given_by key 0 (only (image_after key 0)), refl, omega arith, refl),
        inl refl,
      );
      one_use = refl;
      seen = refl;
      says = record { text_is = refl; fits = omega arith };
      unnoted = refl;
    };
    nothing_leaves = refl;
    signs = refl;
    nothing_stored = refl;
    nothing_noted = refl;
  }

-- and carry along what state and witness should be
carries_on : (key : KeyOfCode) (n : ℕ) (name : Bytes) (one : Signature)
    → IsCarried (watched_run key n name one) (watched_at key n) (watched_at key (n + 1))
carries_on key n name one =
    let given = given_by key n (only (image_after key n)) in
    inr (
      λ neither. cc neither.0,
      inl (record {
        found = inl (0, omega arith, refl);
        states = λ text there. inr
            (image_after key (n + 1), among_one (Some (image_after key (n + 1))) text there, inr refl);
        stored = λ other last.
            only_stored (image_after key (n + 1)) other given (watched_run key n name one).begun _ refl last;
        witnesses = λ text there. inr (ap Some (sym (among_one (witness_after key (n + 1)) text there)));
        noted = λ text noted found there. among_one (witness_after key (n + 1)) found there ∙ cc noted.1;
        unwatched = λ never. absurd never;
      }),
    )

goes_on : (key : KeyOfCode) → IsCarried (resuming_run key) (watched_at key 1) (watched_at key 1)
goes_on key = inr (
  λ neither. cc neither.0,
  inl (record {
    found = (0, omega arith, refl);
    states = λ text there. inl there;
    stored = λ other last.
        only_stored (image_after key 1) other (given_by key 0 (only (image_after key 0))) (resuming_run key).begun _
        refl last;
    witnesses = λ text there. inl there;
    noted = λ text noted. absurd (cc noted.1);
    unwatched = λ never. absurd never;
  }),
)

pub returns : goal.returns
returns c = λ key name first second has enough is of_key at later_is later_of_key later_at. (
  signs key has enough 0 name first (omega arith) is of_key at,
  resumes key has enough,
  signs key has enough 1 name second (omega arith) later_is later_of_key later_at,
  (
    watched_at key 1,
    carries_on key 0 name first,
    (watched_at key 1, goes_on key, (watched_at key 2, carries_on key 1 name second, tt)),
  ),
  λ left kept there.
      let only_there = (after_first key name first (watched_at key 0) left kept).0 in
      another key has (omega (arith, enough)) (only_there (Some (image_after key 0)) there),
)
