-- Two more of members by themselves over any carrier: no book comes to be one that 4 refuses, and Invariant 3.4 of the report.
use mathlib.Core.List.{List}
use Prim.Native.Nat.{ℕ}
use Rattle.views.specs.declared.View.{View}
use Rattle.views.specs.Limits.{max_members}
use Rattle.rules.specs.Data.{EntryOf, BookOf}
use Rattle.rules.specs.Hosts.{NeverWedgedHosts, MovedOnHosts}
use Rattle.rules.proofs.Sound.{Listed, EntryFacts, client_entry, info_entry, registered_entry, told_entry}
use Rattle.rules.proofs.Sound.BookParts.{BookKept}
use Rattle.rules.proofs.Alone.{Fits, by_itself, alone-from}
use Rattle.rules.proofs.Run.Whole as W
use Rattle.rules.proofs.Hosts.{among, Fitting}
use Rattle.rules.proofs.Hosts.Runs.{ranged, begun, existing, fitting, run, well, below, some_one}

-- a book of these views is one of views that fit
module _ {M : Type 0} (n : ℕ) (views : List View) (f : Fitting n views) where
  entry-fits : (e : EntryOf M) → EntryFacts n (Listed views) e → EntryFacts n (Fits n) e
  entry-fits e (client_entry i) = client_entry i
  entry-fits e (info_entry i s) = info_entry i (record { short = s.short; rises = s.rises; known = λ w j. f.fits w (s.known w j) })
  entry-fits e (registered_entry i) = registered_entry i
  entry-fits e (told_entry i a b) = told_entry i a b

  book-fits : (b : BookOf M) → BookKept (among n views) b → BookKept (by_itself n) b
  book-fits b k = let h = k.held in let c = k.carrier in let d = k.client in record {
    held = record { short = h.short; rises = h.rises; known = λ w j. f.fits w (h.known w j) };
    carrier = record { short = c.short; tolds-short = c.tolds-short; taken_in = c.taken_in; known = λ v e. f.fits v (c.known v e); from = c.from };
    client = record {
      short = d.short;
      handed-in = d.handed-in;
      told_in = d.told_in;
      reported-in = d.reported-in;
      known = λ v e. f.fits v (d.known v e);
      from = d.from;
    };
    inward-taken = k.inward-taken;
    outgoing = record { short = k.outgoing.short; entries = λ e j. entry-fits e (k.outgoing.entries e j) };
    below = k.below;
  }

pub never-wedged-hosts : {M : Type 0} → NeverWedgedHosts M
never-wedged-hosts weight n S w l g p i =
    (alone-from n (w.books p) (begun weight n S g).0 (book-fits n (existing weight n S g) (fitting weight n S g) (w.books p) ((well weight n S g).book p i))).sound

pub moved-on-hosts : {M : Type 0} → MovedOnHosts M
moved-on-hosts weight n S w l g v u av hu all lt =
    W.moved_on max_members weight S (below weight n S g) (some_one weight n S g) (run weight n S g) v u av ((ranged weight n S g).all u hu) all lt
