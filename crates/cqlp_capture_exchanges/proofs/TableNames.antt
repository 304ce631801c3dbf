-- Worked statements, and the tables that they name.
use Rattle.std.proofs.Common.{◌≡◌, true, false, Some, None, codes, refl}
use Rattle.cqlp_capture_exchanges.specs.TableNames.{table_name}

-- a word in lower case, behind a keyspace, with a comment before the dot
of_select : table_name (codes "SELECT a FROM Ks /* c */ .T WHERE k = 'FROM u'") true ≡ Some (codes "ks.t")
of_select = refl

-- the first name of several
of_batch : table_name (codes "BEGIN BATCH UPDATE a.b SET v = 1; INSERT INTO c (k) VALUES (2) APPLY BATCH") true ≡ Some (codes "a.b")
of_batch = refl

-- a name in double quotes
of_quoted : table_name (codes "truncate TABLE \"My \"\"t\"\"\"") true ≡ Some (codes "\"My \"\"t\"\"\"")
of_quoted = refl

-- a text in place of a name
of_text : table_name (codes "SELECT 'x' FROM 'y' UPDATE t") true ≡ None
of_text = refl

-- words in texts, comments and quotes
of_other : table_name (codes "CREATE TABLE \"from a\" -- into b\n") true ≡ None
of_other = refl

-- a text that is cut behind a name, where more of it may come, and one that is not
of_cut : table_name (codes "DELETE FROM ks ") false ≡ None
of_cut = refl

of_end : table_name (codes "DELETE FROM ks ") true ≡ Some (codes "ks")
of_end = refl

of_cut_behind : table_name (codes "DELETE FROM ks W") false ≡ Some (codes "ks")
of_cut_behind = refl
